-- The writer has the records of the rows so far.
use Rattle.std.proofs.Common.{◌-◌, ◌*◌, ◌^◌, ◌++◌, ◌≤◌, map}
use Rattle.col_csv.specs.Csv.{records_text}
use Rattle.col_csv_export.specs.Putting.{HasText, rows_between}
use Rattle.col_opened.specs.Opened.{column_of}
use Rattle.col_csv_export.proofs.blocks.with_rows.Given as goal

abbrev pub invariant-loop-next : goal.invariant-loop-next
invariant-loop-next l =
    (l.from ≤ l.next) × (l.next ≤ l.row_count) × (l.written ≤ (l.next - l.from) * 2 ^ 64)
    × HasText l.writer (l.fn.before.items ++ records_text (rows_between (map column_of l.columns) l.from l.next))

abbrev pub decreases-loop-next : goal.decreases-loop-next
decreases-loop-next l = l.row_count - l.next
