-- Columns that are filled with the values of a table.
use Rattle.std.specs.Prelude.{◌≡◌, ℕ, true, Option, Some, None, Result, Ok, Err}
use Rattle.std.specs.FinMap.Entries.{is_sorted}
use Rattle.col_csv.specs.declared.csv_error.CsvError.{CsvError}
use Rattle.col_csv_import.specs.Made.{IsRefused}
use Rattle.col_model.specs.Category.{slot_cmp}
use Rattle.col_model.specs.Table.{Table}
use Rattle.col_model.specs.Written.{Recorded, written}

-- the table that is expected is what is written of the entries, which stand in the order of slots
pub record FillsTable (entries : Recorded) (n : ℕ) (expected : Option Table) : Type 0 where
  pub table : Table
  pub is : expected ≡ Some table
  pub sorted : is_sorted slot_cmp entries ≡ true
  pub made : written entries n None ≡ Ok table

-- Ok has the entries and the row count of the table that is expected; BadCsv comes where none is.
abbrev pub IsFilled : {A : Type 0} → (A → Recorded) → (A → ℕ) → Result A CsvError → Option Table
    → Type 0
IsFilled entries count (Ok filled) expected = FillsTable (entries filled) (count filled) expected
IsFilled entries count (Err e) expected = IsRefused e expected
