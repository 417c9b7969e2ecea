use Rattle.std.proofs.Common.{sym, ap, ◌∙◌}
use Rattle.col_model.specs.Stats.{Stats, stats_of}
use Rattle.col_model.proofs.StatsLaws.{greatest-above}
use Rattle.col_codecs.proofs.BoundsLemmas.{stats_of-greatest}
use Rattle.col_codecs.proofs.blockwise_linear.reader.BlockwiseLinearReaderColumnValuesU64.max_value.Goals as goal

pub returns-clause-value : goal.returns-clause-value
returns-clause-value c =
    ap (λ (s : Stats). s.greatest) (sym c.self.invariant.0.exact) ∙ ap (λ xs. (stats_of xs).greatest) c.self.view_is
    ∙ stats_of-greatest c.args.self.now

pub returns-clause-encloses : goal.returns-clause-encloses
returns-clause-encloses c = greatest-above c.args.self.now c.self.inside.stats.max_value (returns-clause-value c)
