use Rattle.col_text.specs.NumValues.{num_values_of}
use Rattle.col_text.specs.Indexes.{shape_of}
use Rattle.col_dynamic.proofs.CoercionLemmas.{own_i64}
use Rattle.col_dynamic.proofs.dynamic_column.i64_column.Goals as goal

pub returns-clause-fits : goal.returns-clause-fits
returns-clause-fits c =
    let parts = c.into_parts-index in
    rw (← parts.ensures.index, ← parts.ensures.values) (own_i64 (shape_of parts.result.0)
    (num_values_of parts.result.1) parts.ensures.counted c.values_are_in_type.ensures.values.each)
