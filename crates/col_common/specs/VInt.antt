-- Whole numbers in groups of seven bits. States docs/FORMAT.md, section 1.
use Rattle.std.specs.Prelude.{ℕ, zero, suc, ◌+◌, ◌-◌, ◌*◌, ◌/◌, ◌%◌, ◌^◌, ◌<◌, slice_index, nat_lt, nat_le, List, [], ◌∷◌, if◌then◌else◌, Option, Some, None}
use Rattle.col_common.specs.Reading.{◌>>=◌, only_if}

-- The number at the front, and the bytes behind it. Each byte has seven bits, the lowest group
-- first; the last byte alone has its top bit set. The groups behind the first one stand for a
-- number that isn't 0, so each number has one form.
unfoldable pub groups : List ℕ → Option (ℕ × List ℕ)
groups [] = None
groups (b ∷ bytes) =
    let longer = do
      high ← groups bytes
      only_if (nat_le 1 high.0) (b + 128 * high.0, high.1)
    in if nat_lt b 128 then longer else Some (b - 128, bytes)

-- a number below 2 ^ 64 in this form, and the bytes behind it
abbrev pub vint : List ℕ → Option (ℕ × List ℕ)
vint bytes = do
  n ← groups bytes
  only_if (nat_lt n.0 (2 ^ 64)) n

-- the same below 2 ^ 128
abbrev pub vint_u128 : List ℕ → Option (ℕ × List ℕ)
vint_u128 bytes = do
  n ← groups bytes
  only_if (nat_lt n.0 (2 ^ 128)) n

-- the bytes of a number that takes at most k groups
unfoldable pub group_bytes : ℕ → ℕ → List ℕ
group_bytes zero n = []
group_bytes (suc k) n =
    let longer = n % 128 ∷ group_bytes k (n / 128) in
    if nat_lt n 128 then (n + 128) ∷ [] else longer

-- the bytes of a number below 2 ^ 128
abbrev pub vint_bytes : ℕ → List ℕ
vint_bytes n = group_bytes 19 n

-- below place i each byte goes on
abbrev pub GoesOn : List ℕ → ℕ → Type 0
GoesOn bytes i = (k : ℕ) → k < i → slice_index bytes k < 128
