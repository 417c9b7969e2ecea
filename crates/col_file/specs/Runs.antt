-- Items of a list that stand side by side.
use Rattle.std.specs.Prelude.{◌≡◌, ◌≤◌, ℕ, Bool, List, length, filter, slice_range}

-- the items that pass a test are those from one place up to another
pub record IsRun {A : Type 0} (test : A → Bool) (xs : List A) (start end_ : ℕ) : Type 0 where
  pub ordered : start ≤ end_
  pub within : end_ ≤ length xs
  pub items : filter test xs ≡ slice_range xs start end_
