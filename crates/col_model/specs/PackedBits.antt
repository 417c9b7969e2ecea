-- Packed lists, bit by bit. States docs/FORMAT.md, section 2.
use Rattle.std.specs.Prelude.{◌≡◌, ℕ, ◌+◌, ◌*◌, ◌/◌, ◌%◌, ◌<◌, List, slice_index, Some}
use Rattle.std.specs.Int.{bit_at}
use Rattle.col_common.specs.Reading.{IsBytes}
use Rattle.col_bits.specs.Packed.{packed}

-- bit b of the bytes: bit b mod 8 of byte b div 8, the lowest first
abbrev pub bit_of_bytes : List ℕ → ℕ → ℕ
bit_of_bytes bytes b = bit_at (slice_index bytes (b / 8)) (b % 8)

-- Bit j of item i is bit i * w + j of the bytes.
abbrev pub HasBitsOf : List ℕ → ℕ → ℕ → List ℕ → Type 0
HasBitsOf bytes w n items = (i j : ℕ) → i < n → j < w
    → bit_at (slice_index items i) j ≡ bit_of_bytes bytes (i * w + j)

-- A packed list has the bits of its bytes.
abbrev pub PackedHasBits : Type 0
PackedHasBits = (bytes : List ℕ) (w n : ℕ) (items : List ℕ) → IsBytes bytes
    → packed bytes w n ≡ Some items → HasBitsOf bytes w n items
