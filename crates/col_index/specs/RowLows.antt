-- The low bits of rows, and parts of the rows that they tell apart.
use Rattle.std.specs.Prelude.{◌≡◌, ℕ, ◌≤◌, ◌<◌, ◌/◌, ◌%◌, ◌^◌, List, length, slice_index}
use Rattle.col_index.specs.Ranks.{IsTableOf}
use Rattle.col_index.specs.Search.{IsNarrowed}

-- the low 16 bits of each row
abbrev pub AreLows : List ℕ → List ℕ → Type 0
AreLows rows lows = IsTableOf (λ k. slice_index rows k % 2 ^ 16) (length rows) lows

-- the same where they tell the rows of a part of 2 ^ shift rows apart
abbrev pub KeepsLows : List ℕ → ℕ → List ℕ → Type 0
KeepsLows rows shift lows = shift ≤ 16 → AreLows rows lows

-- a row stands between two places, and the rows between them have its high bits
pub record IsClose (rows : List ℕ) (row low high : ℕ) : Type 0 where
  pub narrowed : IsNarrowed rows row low high
  pub near : (i : ℕ) → low ≤ i → i < high → slice_index rows i / 2 ^ 16 ≡ row / 2 ^ 16

-- the same where the rows behind both places are above the row
pub record IsPartOf (rows : List ℕ) (row low high : ℕ) : Type 0 where
  pub close : IsClose rows row low high
  pub behind : (i : ℕ) → high ≤ i → i < length rows → row < slice_index rows i
