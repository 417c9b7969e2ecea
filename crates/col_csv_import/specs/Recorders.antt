-- What records the values of columns.
use Rattle.std.specs.Prelude.{◌≡◌, []}
use Rattle.col_model.specs.ColumnType.{ColumnType}
use Rattle.col_model.specs.ColumnType as types
use Rattle.col_model.specs.Written.{Entry}
use Rattle.col_types.specs.Cells.{bool_cell, unsigned_cell}
use Rattle.col_writer_columns.specs.Columns.{text_entry, plain_entry}
use Rattle.col_writer_columns.specs.Values.{time_cell}
use Rattle.col_csv_import.specs.Columns.{column_entry}
use Rattle.col_csv_import.specs.declared.recorder.Recorder.{Recorder}
use Rattle.col_csv_import.specs.declared.recorder.Recorder.TheVariants.{I64, U64, Bytes, Str, Bool, IpAddr, DateTime}

-- the type
abbrev pub kind_in : Recorder → ColumnType
kind_in (I64 column) = types.i64
kind_in (U64 column) = types.u64
kind_in (Bytes column) = types.bytes
kind_in (Str column) = types.str
kind_in (Bool column) = types.bool
kind_in (IpAddr column) = types.ip
kind_in (DateTime column) = types.datetime

-- the entry
abbrev pub entry_in : Recorder → Entry
entry_in (I64 column) = column
entry_in (U64 column) = column
entry_in (Bytes column) = text_entry types.bytes column
entry_in (Str column) = text_entry types.str column
entry_in (Bool column) = plain_entry types.bool bool_cell column
entry_in (IpAddr column) = plain_entry types.ip unsigned_cell column
entry_in (DateTime column) = plain_entry types.datetime time_cell column

-- values of the type are recorded, and none was
abbrev pub IsNew : ColumnType → Recorder → Type 0
IsNew t r = (kind_in r ≡ t) × (entry_in r ≡ column_entry t [])
