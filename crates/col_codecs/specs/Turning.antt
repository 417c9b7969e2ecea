-- Lists of which something else is packed: steps or offsets, by value and position.
use Rattle.std.specs.Prelude.{◌<◌, ℕ, ◌+◌, ◌^◌, List, length, map}
use Rattle.std.specs.List.{AllByRecursion, enumerate_from}
use Rattle.col_common.specs.Ascending.{AreBelow}
use Rattle.col_bits.specs.Packed.{packed_bytes}

-- what is made of each item at its position, from position k on
abbrev pub by_position : (ℕ × ℕ → ℕ) → ℕ → List ℕ → List ℕ
by_position f k xs = map f (enumerate_from k xs)

-- that, packed at w bits
abbrev pub packed_by_position : (ℕ × ℕ → ℕ) → ℕ → ℕ → List ℕ → List ℕ
packed_by_position f w k xs = packed_bytes w (by_position f k xs)

-- each item can be turned, and takes at most w bits then, and positions stay below 2 ^ 32
pub record ArePackable (Takes : ℕ → Type 0) (f : ℕ × ℕ → ℕ) (w k : ℕ) (xs : List ℕ) : Type 0 where
  pub taken : AllByRecursion Takes xs
  pub small : AreBelow (2 ^ w) (by_position f k xs)
  pub count : k + length xs < 2 ^ 32
