use Rattle.std.proofs.Common.{◌≡◌, map, take}
use Rattle.col_csv_import.specs.Columns.{slotted}
use Rattle.col_writer_file.specs.Tables.{named_entry}
use Rattle.col_csv_import.proofs.import_column.entries_of.Given as goal

abbrev pub invariant-loop-column : goal.invariant-loop-column
invariant-loop-column l = map named_entry l.entries.items ≡ map slotted (take l.column-index l.columns)
