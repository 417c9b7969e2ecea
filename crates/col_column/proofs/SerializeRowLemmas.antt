-- A column that is written stands for its rows.
use Rattle.std.proofs.Common.{◌≡◌, ℕ, ◌<◌, ◌^◌, true, List, length, sum, slice_get, Some, Result, Ok, Err, refl, sym, ◌∙◌, arith, subst}
use Rattle.std.specs.Prelude.{OnOk}
use Rattle.std.specs.List.{list_all}
use Rattle.std.proofs.lemmas.Bool.{eq-eqb}
use Rattle.std.proofs.lemmas.List.Folds.{sum_by-replicate}
use Rattle.col_common.specs.Ascending.{AreBelow}
use Rattle.col_common.specs.declared.error.ColumnarError.{ColumnarError}
use Rattle.col_model.specs.Column.{number_rows, stored_numbers, is_stored}
use Rattle.col_model.specs.ColumnType.{ColumnType}
use Rattle.col_model.specs.Index.{Shape, empty_shape, full_shape, optional_shape, multivalued_shape, shape, counts, counts_over}
use Rattle.col_model.specs.Spelling.{column_bytes}
use Rattle.col_model.specs.Version.{current_version}
use Rattle.col_model.proofs.FileLaws.{number_rows-column_bytes}
use Rattle.col_column.specs.Columns.{row_count, counts_by, IsCounted, rows_by, counts_seen}
use Rattle.col_column.specs.Opened.{counted_rows}
use Rattle.col_column.specs.Written.{numbers_bytes, number_column_bytes, StandForRows}
use Rattle.col_indexer.specs.Spelling.{Index, index_bytes, index_shape}
use Rattle.col_column.proofs.SerializeNumberLemmas.{numbers-read}

-- a shape counts its own rows
pub counts_over-seen : (s : Shape) (n : ℕ) → counts_over (row_count s n) s ≡ Some (counts_seen s n)
counts_over-seen (empty_shape m) n = rw (eq-eqb m m refl) refl
counts_over-seen full_shape n = refl
counts_over-seen (optional_shape cs) n = rw (eq-eqb (length cs) (length cs) refl) refl
counts_over-seen (multivalued_shape cs) n = rw (eq-eqb (length cs) (length cs) refl) refl

counts-read : (index : List ℕ) (s : Shape) (n : ℕ) → shape index current_version ≡ Some s
    → counts index current_version (row_count s n) ≡ Some (counts_seen s n)
unfolding counts
counts-read index s n e = rw e (counts_over-seen s n)

-- the counts of the rows sum up to the values that the shape counts
pub sum-counts_by : (s : Shape) (n : ℕ) → IsCounted s n → sum (counts_by s n) ≡ n
sum-counts_by (empty_shape m) n h = sum_by-replicate (λ x. x) m 0 ∙ omega arith
sum-counts_by full_shape n h = sum_by-replicate (λ x. x) n 1 ∙ omega arith
sum-counts_by (optional_shape cs) n h = h
sum-counts_by (multivalued_shape cs) n h = h

-- the rows are read from an index and values
pub rows-read : (index values xs : List ℕ) (t : ColumnType) (s : Shape) → length index < 2 ^ 64
    → shape index current_version ≡ Some s → IsCounted s (length xs) → stored_numbers t values ≡ Some xs
    → list_all (is_stored t) xs ≡ true
    → number_rows (column_bytes index values) t current_version (row_count s (length xs)) ≡ Some (counted_rows s xs)
unfolding rows_by
rows-read index values xs t s short is counted read all =
    number_rows-column_bytes index values t current_version (row_count s (length xs)) (counts_seen s (length xs)) xs short
    (counts-read index s (length xs) is) read (sum-counts_by s (length xs) counted) all

-- the same of numbers of 64 bits
pub number_rows-read : (i : Index) (codecs xs : List ℕ) → length (index_bytes i) < 2 ^ 64
    → shape (index_bytes i) current_version ≡ Some (index_shape i) → IsCounted (index_shape i) (length xs) → length xs < 2 ^ 32
    → slice_get codecs 0 ≡ Some 0 → AreBelow (2 ^ 64) xs
    → StandForRows (number_column_bytes codecs i xs) (index_shape i) xs
unfolding number_column_bytes
number_rows-read i codecs xs short is counted few first fit t stores =
    rows-read (index_bytes i) (numbers_bytes codecs xs) xs t (index_shape i) short is counted
    (stores.list (numbers_bytes codecs xs) ∙ numbers-read codecs xs first fit few) stores.images

-- the same after Ok, where what is known is known of n values
pub number_rows-again : (result : Result (Unit {0}) ColumnarError) (i : Index) (codecs xs : List ℕ) (n len : ℕ)
    → len ≡ length (index_bytes i) → len < 2 ^ 64 → shape (index_bytes i) current_version ≡ Some (index_shape i)
    → IsCounted (index_shape i) n → length xs ≡ n → n < 2 ^ 32 → slice_get codecs 0 ≡ Some 0
    → OnOk result (AreBelow (2 ^ 64) xs)
    → OnOk result (StandForRows (number_column_bytes codecs i xs) (index_shape i) xs)
number_rows-again (Ok done) i codecs xs n len e short is counted long few first fit =
    let below : length (index_bytes i) < 2 ^ 64 = omega arith in
    let small : length xs < 2 ^ 32 = omega arith in
    number_rows-read i codecs xs below is (subst (IsCounted (index_shape i)) (sym long) counted) small first fit
number_rows-again (Err e) i codecs xs n len same short is counted long few first fit = tt
