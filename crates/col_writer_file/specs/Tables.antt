-- What a table is written as.
use Rattle.std.specs.Prelude.{◌≡◌, ℕ, true, List, [], ◌∷◌, map, Some, Result, Ok, Err, OnOk, OnErr}
use Rattle.std.specs.List.{AllByRecursion}
use Rattle.std.specs.Str.{is_utf8}
use Rattle.col_common.specs.Outside.{SeenSink}
use Rattle.col_common.specs.Serializing.{Serializes, Stopped}
use Rattle.col_common.specs.declared.error.ColumnarError.{ColumnarError}
use Rattle.col_model.specs.Category.{Slot}
use Rattle.col_model.specs.Column.{column}
use Rattle.col_model.specs.ColumnType.{ColumnType}
use Rattle.col_model.specs.File.{StandsFor, part_of_column}
use Rattle.col_model.specs.Keys.{Key}
use Rattle.col_model.specs.Refusal.{Refusal}
use Rattle.col_model.specs.Table.{Content, Column, Table}
use Rattle.col_model.specs.Version.{current_version}
use Rattle.col_model.specs.Written.{Entry, Recorded}
use Rattle.col_keys.specs.Put.{PutColumns, Puts, HavePut, part_put}
use Rattle.col_writer_columns.specs.Answers.{answer_of}
use Rattle.col_writer_file.specs.EntryColumns.{category_in, entry_in}
use Rattle.col_writer_file.specs.OnRows.{type_on, content_on}
use Rattle.col_writer_file.specs.declared.named_entry.NamedEntry.{NamedEntry}

-- the entry of a column, under its slot
abbrev pub named_entry : NamedEntry → Slot × Entry
named_entry c = (record { name = c.name.now; category = category_in c.column }, entry_in c.column)

-- the type of the column of an entry, or its first refusal
abbrev pub slot_type_of : List ℕ → Slot × Entry → Result ColumnType Refusal
slot_type_of row_docs (slot, e) = type_on slot.category e row_docs

-- A column was put under its key, with bytes that stand for its content.
pub record PutsColumn (old new : PutColumns) (a b : SeenSink)
    (result : Result (Unit {0}) ColumnarError) (key : Key) (n : ℕ) (content : Content)
    : Type 0 where
  pub bytes : List ℕ
  pub again : OnOk result (column bytes key.column_type current_version n ≡ Some content)
  pub puts : Puts old new a b result key bytes

-- the columns of entries with these types
unfoldable pub made : List ℕ → Recorded → List ColumnType → List Column
made row_docs [] ts = []
made row_docs (p ∷ es) [] = []
made row_docs (p ∷ es) (t ∷ ts) =
    record { name = p.0.name; column_type = t; content = content_on p.1 row_docs }
    ∷ made row_docs es ts

-- Columns were put under their keys since the sink was as it was at the start, with bytes that
-- stand for their contents. Their names are text.
pub record ArePut (start now : SeenSink) (file : PutColumns) (n : ℕ) (columns : List Column)
    : Type 0 where
  pub ps : List (Key × List ℕ)
  pub have : HavePut start now file ps
  pub are : map (part_put n) ps ≡ map part_of_column columns
  pub text : AllByRecursion (λ c. is_utf8 c.name ≡ true) columns

-- Ok put these columns; a refusal has a cause, whatever was to be written.
pub record PutsColumns (old new : SeenSink) (file : PutColumns)
    (result : Result (Unit {0}) ColumnarError) (n : ℕ) (columns : List Column) : Type 0 where
  pub put : OnOk result (ArePut old new file n columns)
  pub refused : OnErr result ((bytes : List ℕ) → Serializes old new result bytes)

-- Ok added a file that stands for the table; a refusal has a cause.
pub record WritesFile (old new : SeenSink) (result : Result (Unit {0}) ColumnarError)
    (table : Table) : Type 0 where
  pub file : List ℕ
  pub stands : OnOk result (StandsFor table file)
  pub written : Serializes old new result file

-- The table is written as a file; or its first refusal, or want of memory, is answered, and the
-- sink is as it was.
pub record WritesTable (old new : SeenSink) (result : Result (Unit {0}) ColumnarError)
    (expected : Result Table Refusal) : Type 0 where
  pub table : (t : Table) → expected ≡ Ok t → WritesFile old new result t
  pub refusal : (r : Refusal) → expected ≡ Err r → Stopped old new result (answer_of r)
