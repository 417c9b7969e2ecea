-- Rows with what an index keeps beside them to rank them.
use Rattle.std.specs.Prelude.{◌≡◌, ℕ, List}
use Rattle.col_model.specs.Index.{RowSet}
use Rattle.col_index.specs.Sets.{AreRows}
use Rattle.col_index.specs.Ranks.{AreRanks, AreBuckets}
use Rattle.col_index.specs.RowLows.{KeepsLows}
use Rattle.col_index.specs.declared.rank_buckets.RankBuckets.{RankBuckets}

-- rows that rise and stay below the count, with parts of them
pub record AreRankedRows (s : RowSet) (r : RankBuckets) : Type 0 where
  pub rows : AreRows s
  pub parts : AreBuckets s.rows s.num_rows r.shift r.before.items
  pub lows : KeepsLows s.rows r.shift r.lows.items

-- rows that rise and stay below a count, and bits of them as far as the words go
pub record AreBitsOf (s : RowSet) (count : ℕ) (words before : List ℕ) : Type 0 where
  pub rows : AreRows s
  pub long : count ≡ s.num_rows
  pub bits : AreRanks s.rows words before
