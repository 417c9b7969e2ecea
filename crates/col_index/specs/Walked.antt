-- Walks over the rows with a value.
use Rattle.std.specs.Prelude.{◌≡◌, ◌⊎◌, ◌<◌, ◌^◌, ℕ, List}
use Rattle.col_common.specs.Ascending.{differences}
use Rattle.col_common.specs.declared.iterable.Walk.{Walk}
use Rattle.col_model.specs.Positions.{rank, rows_with_value}
use Rattle.col_index.specs.RunPlaces.{Follow}
use Rattle.col_index.specs.declared.row_by_row.RowByRow.{RowByRow}
use Rattle.col_index.specs.declared.row_by_row.RowByRow.TheVariants.{Listed, ByOffsets}
use Rattle.col_index.specs.declared.walked_rows.WalkedRows.{WalkedRows}
use Rattle.col_index.specs.declared.walked_rows.WalkedRows.TheVariants.{OfListed, OfOffsets, OfRuns}

-- the rows that are found one by one
abbrev pub rows_found : RowByRow → List ℕ
rows_found (Listed rows) = rows.now.rows
rows_found (ByOffsets i) = rows_with_value (differences i.now)

-- the rows that are walked
abbrev pub rows_walked : WalkedRows → List ℕ
rows_walked (OfListed rows) = rows.now.rows
rows_walked (OfOffsets i) = rows_with_value (differences i.now)
rows_walked (OfRuns runs) = runs.now.rows

-- so many of the rows stand before a number of 32 bits
pub record IsRanked32 (rows : List ℕ) (row place : ℕ) : Type 0 where
  pub ranked : rank rows row ≡ place
  pub small : row < 2 ^ 32

-- a number of 32 bits from which on the row of a rank can be looked for: as many of the rows stand
-- before it, or it is 0, which tells nothing
pub record IsHint32 (rows : List ℕ) (row place : ℕ) : Type 0 where
  pub told : (row ≡ 0) ⊎ (rank rows row ≡ place)
  pub small : row < 2 ^ 32

-- `place` of a walk is the rank of `inner`, from which on the next row is looked for; up to the rank
-- `sum` the rows follow one another
pub record IsWalkOfRows (rows : List ℕ) (w : Walk) : Type 0 where
  pub ranked : IsRanked32 rows w.inner w.place
  pub follow : Follow rows w.inner w.place w.sum
