-- Columns that are made of fields, as contracts see them.
use Rattle.std.specs.Prelude.{◌≡◌, string_bytes}
use Rattle.col_csv_import.specs.Columns.{FilledColumn, column_entry}
use Rattle.col_csv_import.specs.Recorders.{entry_in, kind_in}
use Rattle.col_csv_import.specs.declared.import_column.ImportColumn.TheInside.{Inside}

-- the column as contracts see it
abbrev pub column_seen : Inside → FilledColumn
column_seen c = record {
  key = record { name = string_bytes c.name; column_type = kind_in c.recorder };
  records = (entry_in c.recorder).records;
}

-- its entry has nothing but records and its type
abbrev pub IsTyped : Inside → Type 0
IsTyped c = entry_in c.recorder
    ≡ column_entry (kind_in c.recorder) (entry_in c.recorder).records
