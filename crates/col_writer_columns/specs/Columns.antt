-- The entries of columns of one type.
use Rattle.std.specs.Prelude.{ℕ, Bool, false, List, map, Option, Some, None, if◌then◌else◌}
use Rattle.col_model.specs.ColumnType.{ColumnType}
use Rattle.col_model.specs.Table.{Cell, text}
use Rattle.col_model.specs.Written.{Record, Entry}
use Rattle.col_writer_columns.specs.Texts.{RecordedTexts}
use Rattle.col_writer_columns.specs.declared.plain_column_writer.PlainColumnWriter.{PlainColumnWriter}

-- values of one type as records
unfoldable pub records_of : {X : Type 0} → ColumnType → (X → Cell) → List (ℕ × X) → List Record
records_of t cell ps = map (λ p. record { doc = p.0; recorded_type = t; cell = cell p.1 }) ps

-- the type where it was asked for
abbrev pub forced_type_of : ColumnType → Bool → Option ColumnType
forced_type_of t is_forced = if is_forced then Some t else None

-- the entry of a column of texts
abbrev pub text_entry : ColumnType → RecordedTexts → Entry
text_entry t w = record {
  records = records_of t text w.values;
  forced = forced_type_of t w.is_forced;
  sorts = w.sorts;
  tie_start = None;
}

-- the entry of a column of other values
abbrev pub plain_entry : {X : Type 0} → ColumnType → (X → Cell) → PlainColumnWriter X → Entry
plain_entry t cell w = record {
  records = records_of t cell w.column;
  forced = forced_type_of t w.is_forced;
  sorts = false;
  tie_start = None;
}
