-- What an estimator of Linear holds of a list.
use Rattle.std.specs.Prelude.{◌≡◌, ◌≤◌, ℕ, List, length, take}
use Rattle.col_model.specs.Stats.{least_of, greatest_of}
use Rattle.col_model.specs.Training.{line_of}
use Rattle.col_model.specs.Codecs.{block_size, deviations, linear_line}
use Rattle.col_codecs.specs.Line.{line_seen}
use Rattle.col_codecs.specs.LinearParams.{params_seen}
use Rattle.col_codecs.specs.declared.linear.estimator.LinearCodecEstimator.{LinearCodecEstimator}

-- the line that is trained on the first values
abbrev pub first_line : List ℕ → ℕ × ℕ
first_line xs = line_of (take block_size xs)

-- the line is trained, and the bounds are those of all deviations from it
pub record IsTrained (e : LinearCodecEstimator) (xs : List ℕ) : Type 0 where
  pub line : line_seen e.linear_params.line ≡ first_line xs
  pub lowest : e.min_deviation ≡ least_of (deviations (first_line xs) xs)
  pub highest : e.max_deviation ≡ greatest_of (deviations (first_line xs) xs)

-- the first values stand at the buffer's front, and once they fill it, the line is trained
pub record IsCollected (e : LinearCodecEstimator) (xs : List ℕ) : Type 0 where
  pub count : e.row_id ≡ length xs
  pub room : length e.block.items ≡ block_size
  pub held : take e.row_id e.block.items ≡ take block_size xs
  pub trained : block_size ≤ length xs → IsTrained e xs

-- where there are enough values, the line is the final one
pub record IsFinalized (e : LinearCodecEstimator) (xs : List ℕ) : Type 0 where
  pub count : e.row_id ≡ length xs
  pub final : block_size ≤ length xs → params_seen e.linear_params ≡ linear_line xs
