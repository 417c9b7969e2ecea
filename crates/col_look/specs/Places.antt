-- Places of numbers in ranges of one width.
use Rattle.std.specs.Prelude.{ℕ, ◌-◌, ◌/◌, ◌<◌, ◌≤◌}

-- the place of the range in which a number lies, from a base on
abbrev pub place_of : ℕ → ℕ → ℕ → ℕ
place_of base width n = (n - base) / width

-- a number lies in one of so many ranges
pub record IsAtPlace (base width len n : ℕ) : Type 0 where
  pub from : base ≤ n
  pub below : place_of base width n < len
