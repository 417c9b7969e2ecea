use Rattle.std.proofs.Common.{[], sym, nat_abs, refl, ◌∙◌}
use Rattle.std.specs.List.{list_all}
use Rattle.col_text.specs.Indexes.{shape_of}
use Rattle.col_types.specs.Cells.{unsigned_cell}
use Rattle.col_text.specs.Coercions.{is_not_negative}
use Rattle.col_text.specs.NumValues.{num_values_of}
use Rattle.col_text.specs.Columns.{content_seen}
use Rattle.col_dynamic.specs.Dynamic.{content_of}
use Rattle.col_dynamic.proofs.CoercionLemmas.{there, other_u64, as_unsigned, still_counted}
use Rattle.col_dynamic.proofs.dynamic_column.u64_column_of.Goals as goal

pub returns-clause-fits : goal.returns-clause-fits
returns-clause-fits c =
    let parts = c.into_parts-index in
    rw (← parts.ensures.index, ← parts.ensures.values)
    (there content_of (λ v. content_seen [] unsigned_cell (shape_of parts.result.0) (num_values_of v)) num_values_of _ _
    _ _ c.with_u64_values.ensures.content c.coerce_to_u64.ensures
    ∙ sym (other_u64 _ _ parts.ensures.counted c.values_are_in_type.ensures.values.each))

pub returns-clause-content : goal.returns-clause-content
returns-clause-content c =
    let parts = c.into_parts-index in
    rw (← parts.ensures.index, ← parts.ensures.values)
    (as_unsigned content_of num_values_of _ _ (shape_of parts.result.0) (num_values_of parts.result.1) _ refl
    c.with_u64_values.ensures.content c.coerce_to_u64.ensures)

pub with_u64_values-requires : goal.with_u64_values-requires
with_u64_values-requires c =
    let parts = c.into_parts-index in
    let xs = num_values_of parts.result.1 in
    still_counted num_values_of c.coerce_to_u64.result (shape_of parts.result.0) nat_abs xs
    (list_all is_not_negative xs) parts.ensures.counted c.coerce_to_u64.ensures
