use Rattle.std.proofs.Common.{◌≤◌, drop, length}
use Rattle.col_merge.specs.Readings.{AllRead, slot_reads}
use Rattle.col_merge.proofs.ReadingLemmas.{AreLeft}
use Rattle.col_merge.proofs.ShortLemmas.{IsShortSoFar}
use Rattle.col_merge_plan.specs.Placed.{AreSegmentsFrom}
use Rattle.col_merge_plan.specs.Slots.{keys_read}
use Rattle.col_merge.proofs.short.open_short.Given as goal

abbrev pub invariant-loop-place : goal.invariant-loop-place
invariant-loop-place g l = AllRead (slot_reads l.slot) l.fn.columnar_readers l.columnar_readers
    × AreLeft l.next l.fn.columnar_readers l.columnar_readers
    × (l.next ≤ length l.fn.columnar_readers)
    × AreSegmentsFrom l.next l.slot (keys_read l.fn.columnar_readers) (drop l.place-index l.segments)
    × IsShortSoFar l.slot l.fn.columnar_readers l.next l.short.counts.items l.short.columns.items
