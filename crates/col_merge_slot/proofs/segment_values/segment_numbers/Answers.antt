use Rattle.std.proofs.Common.{map}
use Rattle.col_index.specs.Indexes.{shape_of}
use Rattle.col_order.specs.Orders.{counts_of}
use Rattle.col_order.specs.RowOrders.{order_of}
use Rattle.col_numbers.specs.NumValues.{num_values_of}
use Rattle.col_merge_slot.specs.Segments.{where_set}
use Rattle.col_merge_slot.proofs.SegmentLemmas.{ok-then, parts-columns}
use Rattle.col_merge_slot.proofs.segment_values.segment_numbers.Goals as goal

pub returns-clause-ok : goal.returns-clause-ok
returns-clause-ok g c =
    ok-then c.segment_parts.result c.segment_parts.ensures.ok (λ r are. parts-columns num_values_of
    g.T.HasAssociatedColumnType.cell g.T.HasAssociatedColumnType.kind
    (counts_of (order_of c.args.merge_row_order.now)) (where_set c.args.columns.now c.args.kept.now)
    (map shape_of r.0.items) r.1.items are)
