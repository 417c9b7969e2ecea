-- Searches in rising lists.
use Rattle.std.specs.Prelude.{ℕ, ◌≤◌, ◌<◌, List, length, slice_index}

-- the numbers below one place are below the target, and those from another on are not
pub record IsNarrowed (xs : List ℕ) (target low high : ℕ) : Type 0 where
  pub ordered : low ≤ high
  pub within : high ≤ length xs
  pub below : (i : ℕ) → i < low → slice_index xs i < target
  pub above : (i : ℕ) → high ≤ i → i < length xs → target ≤ slice_index xs i
