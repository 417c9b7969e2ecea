use Rattle.std.proofs.Common.{◌≡◌, [], length, true, Some, sym, subst}
use Rattle.col_model.specs.ColumnType as types
use Rattle.col_index.specs.Indexes.{shape_of}
use Rattle.col_types.specs.Cells.{unsigned_cell}
use Rattle.col_column.specs.Columns.{row_count, content_seen}
use Rattle.col_column.specs.IpValues.{ip_values_of}
use Rattle.col_dynamic.specs.Dynamic.{dynamic_shape, value_count}
use Rattle.col_merge_slot.specs.Segments.{is_read_as, IsPart}
use Rattle.col_merge_slot.proofs.ReadLemmas.{is-address}
use Rattle.col_merge_slot.proofs.segment_values.IpValuesSegmentValues.parts_of.Goals as goal

pub returns-clause-read : goal.returns-clause-read
returns-clause-read c =
    subst (λ column. true ≡ is_read_as types.ip column)
    (is-address c.args.column c.in_ok-column.column (sym c.in_ok-column.ensures))
    (sym c.address_parts.ensures.read)

pub returns-clause-part : goal.returns-clause-part
returns-clause-part c =
    subst (λ column. IsPart (λ v. length (ip_values_of v)) (λ s v. content_seen [] unsigned_cell s (ip_values_of v))
    (row_count (dynamic_shape column) (value_count column)) (Some column) (shape_of c.address_parts.result.0)
    c.address_parts.result.1)
    (is-address c.args.column c.in_ok-column.column (sym c.in_ok-column.ensures)) c.address_parts.ensures.part
