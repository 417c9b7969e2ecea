-- What a packer holds, above the bytes that it has written.
use Rattle.std.specs.Prelude.{◌≡◌, ℕ, ◌+◌, ◌*◌, ◌^◌, List, ◌++◌, length}
use Rattle.col_common.specs.Ascending.{AreBelow}
use Rattle.col_bits.specs.Packed.{number_of}

-- bits that are not yet written: their number, and how many they are
pub record Held : Type 0 where
  pub number : ℕ
  pub count : ℕ

-- no bits
abbrev pub nothing_held : Held
nothing_held = record { number = 0; count = 0 }

-- the bytes that are written, and what is held above them, as one number
abbrev pub bits_of : Held → List ℕ → ℕ
bits_of held bytes = number_of 256 bytes + held.number * 2 ^ (8 * length bytes)

-- how many bits those are
abbrev pub count_of : Held → List ℕ → ℕ
count_of held bytes = 8 * length bytes + held.count

-- what stood there stays, and bytes are added
pub record AddsBytes (old new : List ℕ) : Type 0 where
  pub added : List ℕ
  pub bytes : AreBelow 256 added
  pub front : new ≡ old ++ added
