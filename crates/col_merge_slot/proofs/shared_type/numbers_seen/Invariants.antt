use Rattle.std.proofs.Common.{take}
use Rattle.col_merge_slot.specs.Segments.{where_set}
use Rattle.col_merge_slot.specs.SlotTypes.{HaveSeen}
use Rattle.col_merge_slot.proofs.shared_type.numbers_seen.Given as goal

-- what was seen of the segments that were passed
abbrev pub invariant-loop-segment : goal.invariant-loop-segment
invariant-loop-segment l =
    HaveSeen (take l.segment (where_set l.columns l.kept)) l.seen
