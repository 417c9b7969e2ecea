use Rattle.std.proofs.Common.{ap, sym, ◌∙◌}
use Rattle.col_model.specs.Stats.{greatest_of}
use Rattle.col_model.proofs.StatsLaws.{greatest-above}
use Rattle.col_codecs.proofs.BoundsLemmas.{stats_of-greatest}
use Rattle.col_codecs.proofs.bitpacked.BitpackedReaderColumnValuesU64.max_value.Goals as goal

pub returns-clause-value : goal.returns-clause-value
returns-clause-value c = ap (λ s. s.greatest) (sym c.self.invariant.0.exact) ∙ stats_of-greatest _ ∙ ap greatest_of c.self.view_is

pub returns-clause-encloses : goal.returns-clause-encloses
returns-clause-encloses c =
    greatest-above c.args.self.now c.self.inside.stats.max_value
    (ap (λ s. s.greatest) (sym c.self.invariant.0.exact) ∙ stats_of-greatest _ ∙ ap greatest_of c.self.view_is)
