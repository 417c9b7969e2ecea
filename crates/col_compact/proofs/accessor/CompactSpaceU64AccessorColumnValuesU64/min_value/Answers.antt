use Rattle.std.proofs.Common.{◌∙◌, ap}
use Rattle.col_model.specs.Stats.{least_of}
use Rattle.col_model.proofs.StatsLaws.{least-below}
use Rattle.col_compact.proofs.accessor.CompactSpaceU64AccessorColumnValuesU64.min_value.Goals as goal

pub returns-clause-encloses : goal.returns-clause-encloses
returns-clause-encloses c =
    least-below c.args.self.now.codes c.from.result
    (c.from.ensures ∙ c.code_bounds-least.ensures.least ∙ ap (λ d. least_of d.codes) c.self.view_is)
