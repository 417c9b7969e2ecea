use Rattle.std.proofs.Common.{take}
use Rattle.std.specs.List.{AllByRecursion}
use Rattle.col_segments.specs.Compaction.{HasItsRows}
use Rattle.col_segments.proofs.held.rows_are_there.Given as goal

abbrev pub invariant-loop-segment : goal.invariant-loop-segment
invariant-loop-segment l = AllByRecursion HasItsRows (take l.segment-index l.held)
