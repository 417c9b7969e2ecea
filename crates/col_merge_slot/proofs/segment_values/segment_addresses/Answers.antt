use Rattle.std.proofs.Common.{map}
use Rattle.col_index.specs.Indexes.{shape_of}
use Rattle.col_order.specs.Orders.{counts_of}
use Rattle.col_order.specs.RowOrders.{order_of}
use Rattle.col_column.specs.IpValues.{ip_values_of}
use Rattle.col_model.specs.ColumnType as types
use Rattle.col_types.specs.Cells.{unsigned_cell}
use Rattle.col_merge_slot.specs.Segments.{where_set}
use Rattle.col_merge_slot.proofs.SegmentLemmas.{ok-then, parts-columns}
use Rattle.col_merge_slot.proofs.segment_values.segment_addresses.Goals as goal

pub returns-clause-ok : goal.returns-clause-ok
returns-clause-ok c =
    ok-then c.segment_parts.result c.segment_parts.ensures.ok (λ r are. parts-columns ip_values_of unsigned_cell
    types.ip (counts_of (order_of c.args.merge_row_order.now)) (where_set c.args.columns.now c.args.kept.now)
    (map shape_of r.0.items) r.1.items are)
