-- Lists under BlockwiseLinear: what is collected for an estimate.
use Rattle.std.specs.Prelude.{◌≡◌, ◌<◌, ℕ, ◌*◌, List, ◌++◌, length, take, map, sum}
use Rattle.col_model.specs.Codecs.{block_size, block_estimate, blocks_of, cut_blocks}
use Rattle.col_codecs.specs.declared.blockwise_linear.estimator.BlockwiseLinearEstimator.{BlockwiseLinearEstimator}

-- The estimate of whole blocks is made; the values behind them stand at the buffer's front.
pub record IsCollected (e : BlockwiseLinearEstimator) (xs : List ℕ) : Type 0 where
  pub whole : List ℕ
  pub count : ℕ
  pub long : length whole ≡ count * block_size
  pub split : xs ≡ whole ++ take e.len e.block.items
  pub estimated : e.num_bytes ≡ sum (map block_estimate (cut_blocks count whole))
  pub room : length e.block.items ≡ block_size
  pub short : e.len < block_size

-- The estimate of all blocks is made.
abbrev pub IsFinalized : BlockwiseLinearEstimator → List ℕ → Type 0
IsFinalized e xs = e.num_bytes ≡ sum (map block_estimate (blocks_of xs))
