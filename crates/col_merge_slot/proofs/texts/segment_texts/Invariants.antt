use Rattle.std.proofs.Common.{◌≡◌, drop}
use Rattle.col_order.specs.Orders.{counts_of}
use Rattle.col_order.specs.RowOrders.{order_of}
use Rattle.col_merge_slot.specs.Segments.{where_set}
use Rattle.col_merge_slot.specs.Texts.{text_type}
use Rattle.col_merge_slot.specs.Taken.{left_after}
use Rattle.col_merge_slot.proofs.TextPartLemmas.{AreTextsUpTo}
use Rattle.col_merge_slot.proofs.texts.segment_texts.Given as goal

-- the columns of the segments that were passed; the other columns are as they were
abbrev pub invariant-loop-segment : goal.invariant-loop-segment
invariant-loop-segment l = record {
  texts : AreTextsUpTo (text_type l.is_text) (counts_of (order_of l.merge_row_order))
      (where_set l.fn.columns l.kept) l.segment l.texts.items;
  left : drop l.segment l.columns ≡ drop l.segment l.fn.columns;
  taken : l.columns ≡ left_after l.segment l.fn.columns l.kept;
}
