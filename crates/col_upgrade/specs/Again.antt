-- Bytes that stand for the same as others of another version.
use Rattle.std.specs.Prelude.{◌≡◌, ℕ, ◌<◌, ◌^◌, List, ◌++◌, sum, Some}
use Rattle.col_model.specs.Column.{column, number_rows, term_column}
use Rattle.col_model.specs.ColumnType.{ColumnType}
use Rattle.col_model.specs.Index.{Counts, counts}
use Rattle.col_model.specs.Table.{Content}
use Rattle.col_model.specs.Version.{current_version}

-- The bytes of an index count rows, and 32 bits count their values.
pub record IsCountable (bytes : List ℕ) (version n : ℕ) : Type 0 where
  pub counted : Counts
  pub read : counts bytes version n ≡ Some counted
  pub few : sum counted.of_rows < 2 ^ 32

-- The bytes of an index and of values are those of a column of some type.
pub record HasRows (bytes : List ℕ) (version n : ℕ) : Type 0 where
  pub kind : ColumnType
  pub rows : Counts × List (List ℕ)
  pub read : number_rows bytes kind version n ≡ Some rows

-- The same with a dictionary in front.
pub record HasTexts (bytes : List ℕ) (version n : ℕ) : Type 0 where
  pub kind : ColumnType
  pub content : Content
  pub read : term_column bytes kind version n ≡ Some content

-- The same rows were added, as the current version has them.
pub record AddsRows (old new bytes : List ℕ) (version n : ℕ) : Type 0 where
  pub part : List ℕ
  pub added : new ≡ old ++ part
  pub same : (t : ColumnType)
      → number_rows part t current_version n ≡ number_rows bytes t version n

-- Bytes stand for the same column of terms, as the current version has it.
abbrev pub AreTexts : List ℕ → List ℕ → ℕ → ℕ → Type 0
AreTexts made bytes version n = (t : ColumnType)
    → term_column made t current_version n ≡ term_column bytes t version n

-- Bytes of the current version stand for the content of a column of so many rows.
abbrev pub StandsForContent : ColumnType → ℕ → Content → List ℕ → Type 0
StandsForContent t n content made = column made t current_version n ≡ Some content
