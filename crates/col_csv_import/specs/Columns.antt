-- Columns that are made of the fields of records.
use Rattle.std.specs.Prelude.{◌≡◌, ◌≤◌, ◌<◌, ◌-◌, ◌^◌, nat_lt, ℕ, true, false, List, [], ◌∷◌, ◌++◌, map, length, option_map, Option, Some, None, Result, OnErr}
use Rattle.std.specs.List.{list_all}
use Rattle.col_csv.specs.CsvTable.{cells_of_field, value_of_text}
use Rattle.col_csv.specs.declared.csv_error.CsvError.{CsvError}
use Rattle.col_csv_import.specs.Made.{Makes}
use Rattle.col_model.specs.Category.{Slot, slot_of}
use Rattle.col_model.specs.ColumnType.{ColumnType}
use Rattle.col_model.specs.Keys.{Key}
use Rattle.col_model.specs.Recording.{is_late}
use Rattle.col_model.specs.Table.{Cell}
use Rattle.col_model.specs.Written.{Record, Entry}

-- what a column has so far: its key, and what was recorded
pub record FilledColumn : Type 0 where
  pub key : Key
  pub records : List Record

-- a column without values
abbrev pub no_values : Key → FilledColumn
no_values k = record { key = k; records = [] }

-- the entry of records whose type is asked for
abbrev pub column_entry : ColumnType → List Record → Entry
column_entry t records =
    record { records = records; forced = Some t; sorts = false; tie_start = None }

-- the entry of a column, under its slot
abbrev pub slotted : FilledColumn → Slot × Entry
slotted c = (slot_of c.key.name c.key.column_type, column_entry c.key.column_type c.records)

-- the records of cells of a document
abbrev pub records_at : ColumnType → ℕ → List Cell → List Record
records_at t d cells = map (λ c. record { doc = d; recorded_type = t; cell = c }) cells

-- the column with more cells of a document
abbrev pub with_cells : ℕ → List Cell → FilledColumn → FilledColumn
with_cells d cells c = record {
  key = c.key;
  records = c.records ++ records_at c.key.column_type d cells;
}

-- the column with what a field says of a document, none where it says nothing
abbrev pub with_field : ℕ → List ℕ → FilledColumn → Option FilledColumn
with_field d field c =
    option_map (λ cells. with_cells d cells c) (cells_of_field c.key.column_type field)

-- The records are of documents before d, and no more than these.
pub record HasRoom (d : ℕ) (c : FilledColumn) : Type 0 where
  pub before : list_all (λ r. nat_lt r.doc d) c.records ≡ true
  pub few : length c.records ≤ d

-- ---- single values

-- The type is asked for, and a record of document d may come.
pub record IsOpen (t : ColumnType) (d : ℕ) (e : Entry) : Type 0 where
  pub forced : e.forced ≡ Some t
  pub in_order : is_late e.records d ≡ false
  pub few : length e.records < 2 ^ 32 - 1

-- the entry with one record more
abbrev pub with_value : ColumnType → ℕ → Entry → Cell → Entry
with_value t d e cell = record {
  records = e.records ++ record { doc = d; recorded_type = t; cell = cell } ∷ [];
  forced = e.forced;
  sorts = e.sorts;
  tie_start = e.tie_start;
}

-- The value that a text spells was recorded; a refusal changed nothing.
pub record TakesText (t : ColumnType) (d : ℕ) (old new : Entry)
    (result : Result (Unit {0}) CsvError) (s : List ℕ) : Type 0 where
  pub made : Makes (λ _. new) result (option_map (with_value t d old) (value_of_text t s))
  pub kept : OnErr result (new ≡ old)
