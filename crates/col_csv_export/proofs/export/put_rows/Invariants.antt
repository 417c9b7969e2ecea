use Rattle.std.proofs.Common.{◌-◌, ◌≤◌, map, Ok}
use Rattle.col_csv.specs.Csv.{records_text, row_records}
use Rattle.col_csv_export.specs.Putting.{PutsText}
use Rattle.col_opened.specs.Opened.{column_of}
use Rattle.col_csv_export.proofs.export.put_rows.Given as goal

abbrev pub invariant-loop-row : goal.invariant-loop-row
invariant-loop-row g l =
    (l.row ≤ l.row_count)
    × PutsText (g.K.Sink.seen l.initial.output) (g.K.Sink.seen l.output) (Ok tt) l.initial.held.items l.held.items
    (records_text (row_records (map column_of l.columns) l.row))

abbrev pub decreases-loop-row : goal.decreases-loop-row
decreases-loop-row g l = l.row_count - l.row
