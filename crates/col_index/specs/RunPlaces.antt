-- Runs of rows, and places among them.
use Rattle.std.specs.Prelude.{◌≡◌, ℕ, ◌+◌, ◌-◌, ◌^◌, ◌≤◌, ◌<◌, List, length, slice_get, slice_index, Some}
use Rattle.col_model.specs.Positions.{rank}
use Rattle.col_index.specs.Runs.{IsInPart}
use Rattle.col_index.specs.declared.run_places.Run.{Run}
use Rattle.col_index.specs.declared.run_places.RunPlace.{RunPlace}

-- a row stands in a run, or behind it and before the next
pub record IsInRun (rows : List ℕ) (row : ℕ) (r : Run) : Type 0 where
  pub start : r.start ≤ row
  pub part : IsInPart rows row r.before (row - r.start) r.len

-- the run is the last one that starts at one of the rows before so many
abbrev pub IsLastRun : List ℕ → List ℕ → ℕ → Run → Type 0
IsLastRun starts rows count r = (row : ℕ) → count ≡ rank starts (row + 1) → IsInRun rows row r

-- the row is one of those of a place
pub record IsNear (p : RunPlace) (row : ℕ) : Type 0 where
  pub behind : p.run.start ≤ row
  pub before : row ≤ p.run.start + p.span

-- the rows of a place stand in its run, or behind it and before the next
pub record IsRunPlace (rows : List ℕ) (p : RunPlace) : Type 0 where
  pub fits : p.run.before + p.run.len < 2 ^ 32
  pub reach : p.run.start + p.span < 2 ^ 32
  pub whole : p.run.len ≤ p.span + 1
  pub rows_near : (row : ℕ) → IsNear p row → IsInRun rows row p.run

-- the rows of the ranks from one up to another follow one another from a row on
abbrev pub Follow : List ℕ → ℕ → ℕ → ℕ → Type 0
Follow rows row place upto =
    (k : ℕ) → place ≤ k → k < upto → slice_get rows k ≡ Some (row + (k - place))

-- the run has the row of a rank
pub record HasRank (r : Run) (rank : ℕ) : Type 0 where
  pub from : r.before ≤ rank
  pub upto : rank < r.before + r.len

-- the rows of a run are the rows of the ranks behind those before it
pub record IsRunOf (rows : List ℕ) (r : Run) : Type 0 where
  pub fits : r.before + r.len < 2 ^ 32
  pub reach : r.start + r.len < 2 ^ 32
  pub follow : Follow rows r.start r.before (r.before + r.len)

-- the row is one of a run
pub record IsRowOf (row : ℕ) (r : Run) : Type 0 where
  pub from : r.start ≤ row
  pub upto : row < r.start + r.len

-- each of the rows is
abbrev pub AreRowsOf : List ℕ → Run → Type 0
AreRowsOf rows r = (k : ℕ) → k < length rows → IsRowOf (slice_index rows k) r

-- the rank of a row of a run
abbrev pub rank_in : Run → ℕ → ℕ
rank_in r row = r.before + (row - r.start)
