use Rattle.std.proofs.Common.{[], sym, ◌∙◌}
use Rattle.col_text.specs.Indexes.{shape_of}
use Rattle.col_model.specs.Table.{number}
use Rattle.col_text.specs.NumValues.{num_values_of}
use Rattle.col_text.specs.Columns.{content_seen}
use Rattle.col_dynamic.specs.Dynamic.{content_of}
use Rattle.col_dynamic.proofs.CoercionLemmas.{there, other_i64, as_signed}
use Rattle.col_dynamic.proofs.dynamic_column.i64_column_of.Goals as goal

pub returns-clause-fits : goal.returns-clause-fits
returns-clause-fits c =
    let parts = c.into_parts-index in
    rw (← parts.ensures.index, ← parts.ensures.values)
    (there content_of (λ v. content_seen [] number (shape_of parts.result.0) (num_values_of v)) num_values_of _ _ _ _
    c.with_i64_values.ensures.content c.coerce_to_i64.ensures ∙ sym (other_i64 _ _ parts.ensures.counted))

pub returns-clause-content : goal.returns-clause-content
returns-clause-content c =
    let parts = c.into_parts-index in
    rw (← parts.ensures.index, ← parts.ensures.values)
    (as_signed content_of num_values_of _ _ (shape_of parts.result.0) (num_values_of parts.result.1) _
    c.with_i64_values.ensures.content c.coerce_to_i64.ensures)
