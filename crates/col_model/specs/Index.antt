-- How many values each row of a column has. States docs/FORMAT.md, sections 7 and 8.
use Rattle.std.specs.Prelude.{ℕ, zero, suc, ◌+◌, ◌*◌, ◌^◌, ◌==◌, ◌&&◌, nat_lt, Bool, List, [], ◌∷◌, length, map, flat_map, replicate, drop, find, zip, unwrap_or, option_map, Option, Some, None, if◌then◌else◌}
use Rattle.std.specs.Int.{w64}
use Rattle.std.specs.List.{list_all, range_with_len, starts_with}
use Rattle.std.specs.Bool.{nat_eq}
use Rattle.col_common.specs.Reading.{◌>>=◌, only_if, parts_by_first}
use Rattle.col_common.specs.VInt.{vint}
use Rattle.col_model.specs.U64List.{values64}
use Rattle.col_common.specs.Ascending.{are_below, is_rising, is_never_falling, differences}
use Rattle.col_model.specs.Table.{Cardinality, full, optional, multivalued, cardinality_of_code}

-- the cardinality, and for each row its number of values
pub record Counts : Type 0 where
  pub cardinality : Cardinality
  pub of_rows : List ℕ

-- how many rows there are, and those that have a value
pub record RowSet : Type 0 where
  pub num_rows : ℕ
  pub rows : List ℕ

-- rows with a value, where the values of each start, and where those of the last end
pub record RowOffsets : Type 0 where
  pub set : RowSet
  pub starts : List ℕ

-- The rows strictly rise and stay below the count.
abbrev pub are_rows : RowSet → Bool
are_rows s = is_rising s.rows && are_below s.num_rows s.rows

-- the number beside a row in the list, or 0
abbrev pub count_beside : List (ℕ × ℕ) → ℕ → ℕ
count_beside pairs row = unwrap_or (option_map (λ p. p.1) (find (λ p. p.0 == row) pairs)) 0

-- for each of n rows the count beside it
abbrev pub spread : ℕ → List ℕ → List ℕ → List ℕ
spread n rows counts = map (count_beside (zip rows counts)) (range_with_len 0 n)

-- start offsets: from 0 on, each at most 2 ^ 32 - 1
abbrev pub are_offsets : List ℕ → Bool
are_offsets starts = starts_with nat_eq starts (0 ∷ []) && are_below (2 ^ 32) starts

-- Start offsets that strictly rise, one more than rows with a value.
abbrev pub are_starts : RowOffsets → Bool
are_starts o =
    are_offsets o.starts && is_rising o.starts
    && (length o.starts == length o.set.rows + 1)

-- the row count, and the rows with a value
unfoldable pub listed_set : List ℕ → Option RowSet
listed_set bytes = do
  n ← vint bytes
  rows ← values64 n.1
  let set : RowSet = record { num_rows = n.0; rows = rows }
  only_if (nat_lt n.0 (2 ^ 32) && are_rows set) set

-- the rows of runs: as many from each start on as the length beside it
abbrev pub run_rows : List ℕ → List ℕ → List ℕ
run_rows starts lengths = flat_map (λ r. range_with_len r.0 r.1) (zip starts lengths)

-- where runs end: behind their last rows
abbrev pub run_ends : List ℕ → List ℕ → List ℕ
run_ends starts lengths = map (λ r. r.0 + r.1) (zip starts lengths)

-- Starts rise, each with a length of at least 1; each run ends before the next starts, and none
-- behind the row count.
abbrev pub are_runs : ℕ → List ℕ → List ℕ → Bool
are_runs n starts lengths =
    (length starts == length lengths) && is_rising starts && list_all (nat_lt 0) lengths
    && list_all (λ p. nat_lt p.0 p.1) (zip (run_ends starts lengths) (drop 1 starts))
    && are_below (n + 1) (run_ends starts lengths)

-- a row in front of runs, each its start and its length: it makes the first one longer, or is a run
abbrev pub before_runs : ℕ → List (ℕ × ℕ) → List (ℕ × ℕ)
before_runs row [] = (row, 1) ∷ []
before_runs row (r ∷ rs) =
    if row + 1 == r.0 then (row, r.1 + 1) ∷ rs else (row, 1) ∷ r ∷ rs

-- the runs of rows that rise
unfoldable pub runs_of : List ℕ → List (ℕ × ℕ)
runs_of [] = []
runs_of (row ∷ rows) = before_runs row (runs_of rows)

-- where runs start
abbrev pub run_starts : List (ℕ × ℕ) → List ℕ
run_starts runs = map (λ r. r.0) runs

-- how long runs are
abbrev pub run_lengths : List (ℕ × ℕ) → List ℕ
run_lengths runs = map (λ r. r.1) runs

-- Rows stand in runs where these hold more than 32 rows each, on the average.
abbrev pub are_in_runs : List ℕ → Bool
are_in_runs rows = nat_lt (32 * length (runs_of rows)) (length rows)

-- the row count, where runs of rows with a value start, how long they are, and how many bytes the
-- starts take
unfoldable pub run_set : List ℕ → Option RowSet
run_set bytes = do
  n ← vint bytes
  parts ← parts_by_first w64 n.1
  starts ← values64 parts.0
  lengths ← values64 parts.1
  only_if (nat_lt n.0 (2 ^ 32) && are_runs n.0 starts lengths)
      (record { num_rows = n.0; rows = run_rows starts lengths })

-- by the byte of the form: rows one by one, or in runs
unfoldable pub formed_set : List ℕ → Option RowSet
formed_set [] = None
formed_set (zero ∷ bytes) = listed_set bytes
formed_set (suc zero ∷ bytes) = run_set bytes
formed_set (suc (suc form) ∷ bytes) = None

-- how a version reads rows with a value, none for another version
abbrev pub set_in : ℕ → Option (List ℕ → Option RowSet)
set_in zero = None
set_in (suc zero) = Some listed_set
set_in (suc (suc zero)) = Some listed_set
set_in (suc (suc (suc zero))) = Some formed_set
set_in (suc (suc (suc (suc later)))) = None

-- Optional: the rows with a value that the bytes stand for, in a file of this version.
unfoldable pub row_set : ℕ → List ℕ → Option RowSet
row_set version bytes = set_in version >>= λ by_version. by_version bytes

-- Multivalued: the rows with a value, and their start offsets.
unfoldable pub row_offsets : ℕ → List ℕ → Option RowOffsets
row_offsets version bytes = do
  parts ← parts_by_first w64 bytes
  set ← row_set version parts.0
  starts ← values64 parts.1
  let offsets : RowOffsets = record { set = set; starts = starts }
  only_if (are_starts offsets) offsets

-- one value in each of these rows, none in the others
abbrev pub set_counts : RowSet → List ℕ
set_counts s = spread s.num_rows s.rows (replicate (length s.rows) 1)

-- in each of these rows as many values as its offsets are apart
abbrev pub offset_counts : RowOffsets → List ℕ
offset_counts o = spread o.set.num_rows o.set.rows (differences o.starts)

-- Multivalued in version 1: one start offset more than rows, which never fall.
unfoldable pub offset_counts_v1 : List ℕ → Option (List ℕ)
offset_counts_v1 bytes = do
  starts ← values64 bytes
  only_if (are_offsets starts && is_never_falling starts) (differences starts)

-- How many values each row has: none in each of so many rows; one in each, however many there
-- are; or the number for each.
pub data Shape : Type 0 where
  empty_shape : ℕ → Shape
  full_shape : Shape
  optional_shape : List ℕ → Shape
  multivalued_shape : List ℕ → Shape

-- how a version reads a Multivalued index, none for another version
abbrev pub multivalued_in : ℕ → Option (List ℕ → Option Shape)
multivalued_in zero = None
multivalued_in (suc zero) = Some (λ bytes. option_map multivalued_shape (offset_counts_v1 bytes))
multivalued_in (suc (suc zero)) =
    Some (λ bytes. option_map (λ o. multivalued_shape (offset_counts o)) (row_offsets 2 bytes))
multivalued_in (suc (suc (suc zero))) =
    Some (λ bytes. option_map (λ o. multivalued_shape (offset_counts o)) (row_offsets 3 bytes))
multivalued_in (suc (suc (suc (suc later)))) = None

-- by the cardinality; Full has no bytes
abbrev pub shape_by : Cardinality → ℕ → (List ℕ → Option Shape) → List ℕ → Option Shape
shape_by full version by_version bytes = only_if (length bytes == 0) full_shape
shape_by optional version by_version bytes =
    option_map (λ s. optional_shape (set_counts s)) (row_set version bytes)
shape_by multivalued version by_version bytes = by_version bytes

-- The shape that the bytes stand for, in a file of this version.
unfoldable pub shape : List ℕ → ℕ → Option Shape
shape [] version = None
shape (code ∷ bytes) version = do
  by_version ← multivalued_in version
  c ← cardinality_of_code code
  shape_by c version by_version bytes

-- the cardinality and the counts of so many rows, where the shape has them
abbrev pub counts_over : ℕ → Shape → Option Counts
counts_over n (empty_shape m) =
    let c = if n == 0 then full else optional in
    only_if (m == n) (record { cardinality = c; of_rows = replicate n 0 })
counts_over n full_shape = Some (record { cardinality = full; of_rows = replicate n 1 })
counts_over n (optional_shape cs) =
    only_if (length cs == n) (record { cardinality = optional; of_rows = cs })
counts_over n (multivalued_shape cs) =
    only_if (length cs == n) (record { cardinality = multivalued; of_rows = cs })

-- The counts that the bytes stand for, in a file of this version and row count.
unfoldable pub counts : List ℕ → ℕ → ℕ → Option Counts
counts bytes version n = shape bytes version >>= counts_over n
