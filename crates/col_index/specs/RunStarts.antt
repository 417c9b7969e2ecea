-- Where runs start, with what counts the starts up to a row.
use Rattle.std.specs.Prelude.{◌≡◌, ℕ, ◌+◌, ◌-◌, ◌^◌, ◌<◌, List, length, slice_index}
use Rattle.col_model.specs.Index.{RowSet}
use Rattle.col_index.specs.Ranks.{AreBuckets}
use Rattle.col_index.specs.Sets.{AreRows}

-- the starts, and behind them the greatest number of 32 bits
pub record AreNexts (starts nexts : List ℕ) : Type 0 where
  pub long : length nexts ≡ length starts + 1
  pub each : (k : ℕ) → k < length starts → slice_index nexts k ≡ slice_index starts k
  pub last : slice_index nexts (length starts) ≡ 2 ^ 32 - 1

-- starts that rise and stay below the count, once more as these, and how many of them stand before
-- each part of 2 ^ shift rows
pub record AreRunStarts (s : RowSet) (nexts : List ℕ) (shift : ℕ) (before : List ℕ) : Type 0 where
  pub rows : AreRows s
  pub ahead : AreNexts s.rows nexts
  pub parts : AreBuckets s.rows s.num_rows shift before
