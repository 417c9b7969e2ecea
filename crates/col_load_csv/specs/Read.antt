-- Columns that were read.
use Rattle.std.specs.Prelude.{List, map, string_bytes, Vec, Option, Some, None, Result, Ok, Err}
use Rattle.std.specs.declared.alloc.Global.{Global}
use Rattle.col_documents.specs.Documents.{Refusal}
use Rattle.col_load_csv.specs.Columns.{CsvColumn, bad_header}
use Rattle.col_load_csv.specs.declared.column.Column.{Column}

-- the column
abbrev pub column_read : Column → CsvColumn
column_read c = record { name = string_bytes c.name; form = c.form; kind = c.kind }

-- the columns, or the refusal of the first record where there are none
abbrev pub columns_read : Option (Vec Column Global) → Result (List CsvColumn) Refusal
columns_read (Some columns) = Ok (map column_read columns.items)
columns_read None = Err bad_header
