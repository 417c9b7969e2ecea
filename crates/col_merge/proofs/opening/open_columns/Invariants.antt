use Rattle.std.proofs.Common.{take}
use Rattle.col_merge.specs.Opened.{AllOpenedAs}
use Rattle.col_merge.specs.Readings.{AllRead, slot_reads}
use Rattle.col_merge.proofs.ReadingLemmas.{AreLeft}
use Rattle.col_merge.proofs.opening.open_columns.Given as goal

abbrev pub invariant-loop-segment : goal.invariant-loop-segment
invariant-loop-segment g l = AllRead (slot_reads l.slot) l.fn.columnar_readers l.columnar_readers
    × AreLeft l.segment l.fn.columnar_readers l.columnar_readers
    × AllOpenedAs l.slot (take l.segment l.fn.columnar_readers) l.columns.items
