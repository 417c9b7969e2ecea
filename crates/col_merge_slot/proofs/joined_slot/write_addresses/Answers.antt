use Rattle.std.proofs.Common.{map, refl, ap₂}
use Rattle.col_model.specs.ColumnType as types
use Rattle.col_order.specs.RowOrders.{order_of}
use Rattle.col_index.specs.Indexes.{shape_of}
use Rattle.col_column.specs.IpValues.{ip_values_of}
use Rattle.col_types.specs.Cells.{unsigned_cell}
use Rattle.col_merge_column.specs.Merges.{columns_by}
use Rattle.col_merge_slot.specs.Segments.{where_set}
use Rattle.col_merge_slot.proofs.TakenLemmas.{takes-still, takes-joined}
use Rattle.col_merge_slot.proofs.JoinedLemmas.{numbers-written}
use Rattle.col_merge_slot.proofs.joined_slot.write_addresses.Goals as goal

pub returns-clause-written : goal.returns-clause-written
returns-clause-written g c =
    let parts = c.in_ok-indexes in
    numbers-written unsigned_cell types.ip (order_of c.args.merge_row_order.now) (where_set c.args.columns.now c.args.kept.now)
    (columns_by (map shape_of parts.indexes.items) (map ip_values_of parts.values.items))
    (columns_by (map shape_of c.deref.result.now) (map ip_values_of c.deref-2.result.now)) _ _
    c.join_addresses.result
    (ap₂ (λ is vs. columns_by (map shape_of is) (map ip_values_of vs)) c.deref.ensures.value c.deref-2.ensures.value)
    c.picked_content_is_joined.ensures (λ x. refl) c.orders_are_picks.ensures parts.ensures.ok c.join_addresses.ensures

pub returns-in_err-indexes-clause-taken : goal.returns-in_err-indexes-clause-taken
returns-in_err-indexes-clause-taken g c =
    takes-still _ c.args.columns.now c.args.kept.now _ _ _ c.from_residual.ensures.1 c.in_err-indexes.ensures.taken

pub returns-clause-taken : goal.returns-clause-taken
returns-clause-taken g c =
    takes-joined _ c.args.columns.now c.args.kept.now _ _ _ _ _ _ _ c.in_ok-indexes.ensures.taken c.join_addresses.ensures
