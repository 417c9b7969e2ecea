-- What the estimators of all codecs have collected.
use Rattle.std.specs.Prelude.{ℕ, List}
use Rattle.col_numbers.specs.declared.estimator.Estimator.{Estimator}
use Rattle.col_numbers.specs.declared.estimator.Estimator.TheVariants.{Bitpacked, Linear, BlockwiseLinear}
use Rattle.col_codecs.specs.Linear as linear
use Rattle.col_codecs.specs.Blockwise as blockwise

-- the code of the codec
abbrev pub estimator_code : Estimator → ℕ
estimator_code (Bitpacked _) = 0
estimator_code (Linear _) = 1
estimator_code (BlockwiseLinear _) = 2

-- these values were collected, and may be more; Bitpacked has nothing to collect
abbrev pub HasCollected : Estimator → List ℕ → Type 0
HasCollected (Bitpacked e) xs = Unit {0}
HasCollected (Linear e) xs = linear.IsCollected e xs
HasCollected (BlockwiseLinear e) xs = blockwise.IsCollected e xs

-- these values were collected, and are all
abbrev pub HasFinalized : Estimator → List ℕ → Type 0
HasFinalized (Bitpacked e) xs = Unit {0}
HasFinalized (Linear e) xs = linear.IsFinalized e xs
HasFinalized (BlockwiseLinear e) xs = blockwise.IsFinalized e xs
