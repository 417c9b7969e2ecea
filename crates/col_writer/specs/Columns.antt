-- The entries of a writer's columns.
use Rattle.std.specs.Prelude.{ℕ, Bool, map}
use Rattle.col_model.specs.ColumnType as types
use Rattle.col_model.specs.Written.{Entry}
use Rattle.col_types.specs.Cells.{bool_cell, unsigned_cell}
use Rattle.col_writer_columns.specs.Texts.{RecordedTexts}
use Rattle.col_writer_columns.specs.Values.{time_cell}
use Rattle.col_writer_columns.specs.Columns.{text_entry, plain_entry}
use Rattle.col_writer_columns.specs.declared.plain_column_writer.PlainColumnWriter.{PlainColumnWriter}
use Rattle.col_writer.specs.Changes.{ByName}
use Rattle.col_writer.specs.Contents.{WriterColumns}

-- names with what f gives of their columns
abbrev pub each_entry : {X : Type 0} → (X → Entry) → ByName X → ByName Entry
each_entry f es = map (λ p. (p.0, f p.1)) es

-- the entries of all columns
abbrev pub columns_of : ByName Entry → ByName RecordedTexts → ByName RecordedTexts
    → ByName (PlainColumnWriter Bool) → ByName (PlainColumnWriter ℕ)
    → ByName (PlainColumnWriter ℕ) → WriterColumns
columns_of numerical bytes strs bools ips datetimes = record {
  numerical = each_entry (λ e. e) numerical;
  bytes = each_entry (text_entry types.bytes) bytes;
  str = each_entry (text_entry types.str) strs;
  bool = each_entry (plain_entry types.bool bool_cell) bools;
  ip = each_entry (plain_entry types.ip unsigned_cell) ips;
  datetime = each_entry (plain_entry types.datetime time_cell) datetimes;
}
