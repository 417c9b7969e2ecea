-- Indexes and values by how many values each row has.
use Rattle.std.specs.Prelude.{◌≡◌, ℕ, zero, suc, ◌-◌, ◌==◌, false, List, [], ◌∷◌, map, length, sum, count_by, Some, Result, OnOk, ◌≤◌, ◌+◌, take}
use Rattle.std.specs.List.{range_with_len}
use Rattle.col_common.specs.Outside.{SeenSink}
use Rattle.col_common.specs.Serializing.{Serializes}
use Rattle.col_common.specs.declared.error.ColumnarError.{ColumnarError}
use Rattle.col_model.specs.Column.{number_rows, column}
use Rattle.col_model.specs.ColumnType.{ColumnType}
use Rattle.col_model.specs.Dictionary.{cut}
use Rattle.col_model.specs.Positions.{rows_with_value, starts_of}
use Rattle.col_model.specs.Table.{Content}
use Rattle.col_model.specs.Version.{current_version}
use Rattle.col_column.specs.Offsets.{cardinality_in}
use Rattle.col_column.specs.Counted.{tightest_of}
use Rattle.col_column.specs.Spelling.{Index, IsIndex, index_shape, is_past_limit}
use Rattle.col_column.specs.Columns.{row_count, counts_by}

-- how many of the documents each of n rows is
unfoldable pub counts_of_rows : ℕ → List ℕ → List ℕ
counts_of_rows n docs = map (λ d. count_by (λ x. x == d) docs) (range_with_len 0 n)

-- 1 where the count isn't 0
abbrev pub num_some : ℕ → ℕ
num_some zero = 0
num_some (suc _) = 1

-- how far each number is behind the one before it, and the first one behind another
unfoldable pub steps_from : ℕ → List ℕ → List ℕ
steps_from last [] = []
steps_from last (x ∷ xs) = (x - last) ∷ steps_from x xs

-- the first so many rows are those with values, and the first so many starts and one more theirs
pub record HasNoted (cs rows starts : List ℕ) (len : ℕ) : Type 0 where
  pub within : len ≤ length cs
  pub rows_are : take len rows ≡ rows_with_value cs
  pub starts_are : take (len + 1) starts ≡ starts_of cs

-- The index can be written, counts the values of the rows, and has their tightest cardinality.
pub record CountsRows (cs : List ℕ) (i : Index) : Type 0 where
  pub index : IsIndex i
  pub limit : is_past_limit i ≡ false
  pub rows : row_count (index_shape i) (sum cs) ≡ length cs
  pub counts : counts_by (index_shape i) (sum cs) ≡ cs
  pub cardinality : cardinality_in (index_shape i) ≡ tightest_of cs

-- Ok added bytes that stand for numbers of this type, cut into rows of so many each; a refusal has
-- a cause.
pub record SerializesCounted (old new : SeenSink) (result : Result (Unit {0}) ColumnarError)
    (t : ColumnType) (cs xs : List ℕ) : Type 0 where
  pub bytes : List ℕ
  pub again : OnOk result (number_rows bytes t current_version (length cs)
      ≡ Some (record { cardinality = tightest_of cs; of_rows = cs }, cut cs xs))
  pub written : Serializes old new result bytes

-- Ok added bytes that stand for this column of n rows; a refusal has a cause.
pub record SerializesColumn (old new : SeenSink) (result : Result (Unit {0}) ColumnarError)
    (t : ColumnType) (n : ℕ) (content : Content) : Type 0 where
  pub bytes : List ℕ
  pub again : OnOk result (column bytes t current_version n ≡ Some content)
  pub written : Serializes old new result bytes
