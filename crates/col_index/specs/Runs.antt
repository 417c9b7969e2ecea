-- Rows with a value that stand in runs.
use Rattle.std.specs.Prelude.{◌≡◌, ℕ, ◌+◌, true, List, [], ◌∷◌, min, nat_lt, Option, ◌<◌, slice_index, length}
use Rattle.col_common.specs.Reading.{only_if}
use Rattle.col_common.specs.Ascending.{differences}
use Rattle.col_model.specs.Index.{RowSet, run_rows, are_runs}
use Rattle.col_model.specs.Positions.{rank}
use Rattle.col_index.specs.Sets.{holds}

-- the rows of runs among so many rows, where they are runs
abbrev pub runs_by : ℕ → List ℕ → List ℕ → Option RowSet
runs_by n starts lengths = only_if (are_runs n starts lengths)
    (record { num_rows = n; rows = run_rows starts lengths })

-- a number, and what it comes to with each of the counts and those before it
abbrev pub sums_from : ℕ → List ℕ → List ℕ
sums_from before [] = before ∷ []
sums_from before (c ∷ cs) = before ∷ sums_from (before + c) cs

-- how many rows stand before each run, and in all of them, where they are runs
abbrev pub run_sums : ℕ → List ℕ → List ℕ → Option (List ℕ)
run_sums n starts lengths = only_if (are_runs n starts lengths) (sums_from 0 lengths)

-- the rows of runs that start at rows of a set, by how many stand before each run and in all
abbrev pub rows_of_runs : RowSet → List ℕ → RowSet
rows_of_runs starts before =
    record { num_rows = starts.num_rows; rows = run_rows starts.rows (differences before) }

-- the set's rows are where runs start, and the list has the sums of their lengths
pub record AreSummedRuns (starts : RowSet) (before : List ℕ) : Type 0 where
  pub runs : are_runs starts.num_rows starts.rows (differences before) ≡ true
  pub sums : before ≡ sums_from 0 (differences before)

-- For so many of the runs, from none on: how many rows there are outside of runs before the last of
-- them, and 0 for none.
pub record AreGaps (starts before gaps : List ℕ) : Type 0 where
  pub long : length gaps ≡ length starts + 1
  pub first : slice_index gaps 0 ≡ 0
  pub each : (k : ℕ) → k < length starts
      → slice_index gaps (k + 1) + slice_index before k ≡ slice_index starts k

-- runs with both
pub record AreRunTables (starts : RowSet) (before gaps : List ℕ) : Type 0 where
  pub summed : AreSummedRuns starts before
  pub apart : AreGaps starts.rows before gaps

-- a row is so far inside of a part of rows, of which the first ones are in the list and no others;
-- so many of the list stand before the part
pub record IsInPart (rows : List ℕ) (row before inside len : ℕ) : Type 0 where
  pub count : rank rows row ≡ before + min inside len
  pub held : holds rows row ≡ nat_lt inside len
