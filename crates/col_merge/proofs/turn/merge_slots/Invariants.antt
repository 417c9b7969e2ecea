use Rattle.std.proofs.Common.{◌≡◌, List, length, take}
use Rattle.col_model.specs.Category.{Slot}
use Rattle.col_model.specs.Merge.{Required, required_type}
use Rattle.col_order.specs.Orders.{picks_of}
use Rattle.col_order.specs.RowOrders.{order_of}
use Rattle.col_merge.specs.Joined.{joined_by}
use Rattle.col_merge.specs.Readings.{AllRead, slots_reads}
use Rattle.col_merge_plan.specs.RequiredTypes.{known_type}
use Rattle.col_merge.specs.Turns.{IsLaterSink, MergedSoFar}
use Rattle.col_merge.proofs.turn.merge_slots.Given as goal

abbrev pub invariant-loop-slot : goal.invariant-loop-slot
invariant-loop-slot g l = AllRead (slots_reads (take l.slot-index l.slots)) l.fn.columnar_readers l.columnar_readers
    × IsLaterSink (g.K.Sink.seen l.fn.output) (g.K.Sink.seen l.output)
    × ((required : List Required)
    → ((q : Slot) → known_type l.types q ≡ required_type required q)
    → MergedSoFar l.fn.columnar_readers (g.K.Sink.seen l.fn.output) (g.K.Sink.seen l.output) l.columns
    (length (picks_of (order_of l.merge_row_order)))
    (joined_by (order_of l.merge_row_order) required) (take l.slot-index l.slots))
