use Rattle.std.proofs.Common.{ap, ◌∙◌}
use Rattle.col_model.specs.Stats.{least_of}
use Rattle.col_model.proofs.StatsLaws.{least-below}
use Rattle.col_codecs.proofs.BoundsLemmas.{stats_of-least}
use Rattle.col_codecs.proofs.linear.reader.LinearReaderColumnValuesU64.min_value.Goals as goal

pub returns-clause-value : goal.returns-clause-value
returns-clause-value c = ap (λ s. s.least) c.self.invariant.0 ∙ stats_of-least _ ∙ ap least_of c.self.view_is

pub returns-clause-encloses : goal.returns-clause-encloses
returns-clause-encloses c =
    least-below c.args.self.now c.self.inside.stats.min_value
    (ap (λ s. s.least) c.self.invariant.0 ∙ stats_of-least _ ∙ ap least_of c.self.view_is)
