-- The entries of columns that record.
use Rattle.std.specs.Prelude.{ℕ, List, Result, Ok}
use Rattle.col_model.specs.Category.{Category, Slot}
use Rattle.col_model.specs.Category as categories
use Rattle.col_model.specs.ColumnType as types
use Rattle.col_model.specs.Refusal.{Refusal, ◌>>=◌}
use Rattle.col_model.specs.Table.{Column}
use Rattle.col_model.specs.Written.{Entry}
use Rattle.col_types.specs.Cells.{bool_cell, unsigned_cell}
use Rattle.col_writer_columns.specs.Columns.{text_entry, plain_entry}
use Rattle.col_writer_columns.specs.Values.{time_cell}
use Rattle.col_writer_file.specs.OnRows.{type_on, content_on}
use Rattle.col_writer_file.specs.declared.entry_column.EntryColumn.{EntryColumn}
use Rattle.col_writer_file.specs.declared.entry_column.EntryColumn.TheVariants.{Numerical, Bytes, Str, Bool, IpAddr, DateTime}

-- the category
abbrev pub category_in : EntryColumn → Category
category_in (Numerical column) = categories.numerical
category_in (Bytes column) = categories.bytes
category_in (Str column) = categories.str
category_in (Bool column) = categories.bool
category_in (IpAddr column) = categories.ip
category_in (DateTime column) = categories.datetime

-- the entry
abbrev pub entry_in : EntryColumn → Entry
entry_in (Numerical column) = column.now
entry_in (Bytes column) = text_entry types.bytes column.now
entry_in (Str column) = text_entry types.str column.now
entry_in (Bool column) = plain_entry types.bool bool_cell column.now
entry_in (IpAddr column) = plain_entry types.ip unsigned_cell column.now
entry_in (DateTime column) = plain_entry types.datetime time_cell column.now

-- the column of an entry under its slot, or its first refusal
abbrev pub column_on : List ℕ → Slot × Entry → Result Column Refusal
column_on row_docs (slot, e) = type_on slot.category e row_docs
    >>= λ t. Ok (record { name = slot.name; column_type = t; content = content_on e row_docs })
