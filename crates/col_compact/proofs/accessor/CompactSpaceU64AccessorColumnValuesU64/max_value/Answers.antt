use Rattle.std.proofs.Common.{◌∙◌, ap}
use Rattle.col_model.specs.Stats.{greatest_of}
use Rattle.col_model.proofs.StatsLaws.{greatest-above}
use Rattle.col_compact.proofs.accessor.CompactSpaceU64AccessorColumnValuesU64.max_value.Goals as goal

pub returns-clause-encloses : goal.returns-clause-encloses
returns-clause-encloses c =
    greatest-above c.args.self.now.codes c.from.result
    (c.from.ensures ∙ c.code_bounds-least.ensures.greatest ∙ ap (λ d. greatest_of d.codes) c.self.view_is)
