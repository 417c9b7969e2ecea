use Rattle.std.proofs.Common.{sym, ap, ◌∙◌}
use Rattle.col_model.specs.Stats.{Stats, stats_of}
use Rattle.col_model.proofs.StatsLaws.{least-below}
use Rattle.col_codecs.proofs.BoundsLemmas.{stats_of-least}
use Rattle.col_codecs.proofs.blockwise_linear.reader.BlockwiseLinearReaderColumnValuesU64.min_value.Goals as goal

pub returns-clause-value : goal.returns-clause-value
returns-clause-value c =
    ap (λ (s : Stats). s.least) (sym c.self.invariant.0.exact) ∙ ap (λ xs. (stats_of xs).least) c.self.view_is
    ∙ stats_of-least c.args.self.now

pub returns-clause-encloses : goal.returns-clause-encloses
returns-clause-encloses c = least-below c.args.self.now c.self.inside.stats.min_value (returns-clause-value c)
