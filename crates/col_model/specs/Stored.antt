-- Which numbers a column of a type stores, and which values they stand for. States docs/FORMAT.md,
-- section 9.
use Rattle.std.specs.Prelude.{◌≡◌, ℕ, pos, Bool, false, List, Option}
use Rattle.col_model.specs.ColumnType.{ColumnType, has_terms}
use Rattle.col_model.specs.Table.{Cell, number}
use Rattle.col_model.specs.Column.{number_cell, is_stored, stored_numbers}
use Rattle.col_model.specs.Monotonic.{Passes}

-- A column of this type has no terms; its bytes are a list as `list` reads it, of the numbers that
-- stand for a value; the cell of a number is that of its value.
pub record IsStoredAs {T : Type 0} (list : List ℕ → Option (List ℕ)) (kind : ColumnType)
    (cell : T → Cell) (value : ℕ → T) (is_code : ℕ → Bool) : Type 0 where
  pub without_terms : has_terms kind ≡ false
  pub numbers : (bytes : List ℕ) → stored_numbers kind bytes ≡ list bytes
  pub stored : (n : ℕ) → is_stored kind n ≡ is_code n
  pub cells : (n : ℕ) → Passes is_code n → number_cell kind n ≡ cell (value n)

-- the cell of a default is 0
abbrev pub DefaultIsZero : {T : Type 0} → (T → Type 0) → (T → Cell) → Type 0
DefaultIsZero {T = T} is_default cell = (v : T) → is_default v → cell v ≡ number (pos 0)
