use Rattle.std.proofs.Common.{◌≡◌, drop, map}
use Rattle.col_index.specs.Indexes.{shape_of}
use Rattle.col_order.specs.Orders.{counts_of}
use Rattle.col_order.specs.RowOrders.{order_of}
use Rattle.col_merge_slot.specs.Segments.{where_set}
use Rattle.col_merge_slot.specs.Taken.{left_after}
use Rattle.col_merge_slot.proofs.SegmentLemmas.{ArePartsUpTo}
use Rattle.col_merge_slot.proofs.segment_parts.segment_parts.Given as goal

-- the parts of the segments that were passed; the other columns are as they were
abbrev pub invariant-loop-segment : goal.invariant-loop-segment
invariant-loop-segment g l = record {
  parts : ArePartsUpTo g.V.SegmentValues.kind g.V.SegmentValues.count g.V.SegmentValues.content
      (counts_of (order_of l.merge_row_order)) (where_set l.fn.columns l.kept) l.segment
      (map shape_of l.indexes.items) l.values.items;
  left : drop l.segment l.columns ≡ drop l.segment l.fn.columns;
  taken : l.columns ≡ left_after l.segment l.fn.columns l.kept;
}
