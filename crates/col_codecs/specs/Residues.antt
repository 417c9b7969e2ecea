-- Residues of numbers that rise by equal steps.
use Rattle.std.specs.Prelude.{◌≡◌, ◌<◌, ◌≤◌, ℕ, ◌+◌, ◌*◌, ◌%◌}

-- what is left of a number that rises by a factor from an offset on, x steps behind it
abbrev pub residue : ℕ → ℕ → ℕ → ℕ → ℕ
residue modulus factor offset x = (factor * x + offset) % modulus

-- the least that a function is of a number below n
pub record IsLeast (f : ℕ → ℕ) (n v : ℕ) : Type 0 where
  pub place : ℕ
  pub within : place < n
  pub there : f place ≡ v
  pub below : (x : ℕ) → x < n → v ≤ f x

-- the greatest that a function is of a number below n
pub record IsGreatest (f : ℕ → ℕ) (n v : ℕ) : Type 0 where
  pub place : ℕ
  pub within : place < n
  pub there : f place ≡ v
  pub above : (x : ℕ) → x < n → f x ≤ v
