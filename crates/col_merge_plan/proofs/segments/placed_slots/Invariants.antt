use Rattle.std.proofs.Common.{◌≡◌, take}
use Rattle.col_merge_plan.specs.Placed.{placed_from}
use Rattle.col_merge_plan.specs.Slots.{keys_read}
use Rattle.col_merge_plan.proofs.segments.placed_slots.Given as goal

abbrev pub invariant-loop-segment : goal.invariant-loop-segment
invariant-loop-segment g l = l.placed.items ≡ placed_from 0 (keys_read (take l.segment l.columnar_readers))
