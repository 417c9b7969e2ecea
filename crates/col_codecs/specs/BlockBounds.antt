-- Bounds of the blocks of a list.
use Rattle.std.specs.Prelude.{◌≡◌, ◌<◌, ◌≤◌, ℕ, ◌/◌, List, length, slice_index_or}
use Rattle.col_model.specs.Stats.{least_of, greatest_of}
use Rattle.col_codecs.specs.declared.block_bounds.Bounds.{Bounds}

-- the least and the greatest of some numbers
pub record AreBounds (b : Bounds) (xs : List ℕ) : Type 0 where
  pub some : 0 < length xs
  pub least : b.least ≡ least_of xs
  pub greatest : b.greatest ≡ greatest_of xs

-- a number is none below the least, and none above the greatest
abbrev pub LiesWithin : Bounds → ℕ → Type 0
LiesWithin b v = (b.least ≤ v) × (v ≤ b.greatest)

-- bounds for a block that has none
abbrev pub no_bounds : Bounds
no_bounds = record { least = 0; greatest = 0 }

-- the number lies within the bounds of block k, where it has bounds
abbrev pub LiesIn : List Bounds → ℕ → ℕ → Type 0
LiesIn bs k v = k < length bs → LiesWithin (slice_index_or bs k no_bounds) v

-- all items of each block lie within its bounds: item i, of the first n, is one of block i / 1024
abbrev pub Enclose : List Bounds → (ℕ → ℕ) → ℕ → Type 0
Enclose bs f n = (i : ℕ) → i < n → LiesIn bs (i / 1024) (f i)
