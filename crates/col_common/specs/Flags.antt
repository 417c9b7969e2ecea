-- Sets of numbers below a bound, as a flag for each of these numbers.
use Rattle.std.specs.Prelude.{◌≡◌, ◌<◌, ℕ, ◌+◌, ◌-◌, ◌/◌, ◌%◌, ◌==◌, Bool, false, List, [], ◌∷◌, length, map, filter, count_by, slice_index, slice_index_or, Option, MatchOption}
use Rattle.std.specs.Int.{bit_at, div_ceil}
use Rattle.std.specs.List.{range_with_len}

-- whether bit k of words of 64 bits is set, the lowest bit of each word first
abbrev pub flag_at : List ℕ → ℕ → Bool
flag_at words k = bit_at (slice_index words (k / 64)) (k % 64) == 1

-- the first n bits of the words
unfoldable pub flags_of : List ℕ → ℕ → List Bool
flags_of words n = map (flag_at words) (range_with_len 0 n)

-- how many flags are set
abbrev pub count_set : List Bool → ℕ
count_set flags = count_by (λ flag. flag) flags

-- there are words for n flags, and the flags that are set are counted
pub record CountsFlags (words : List ℕ) (n count : ℕ) : Type 0 where
  pub room : length words ≡ div_ceil n 64
  pub counted : count ≡ count_set (flags_of words n)

-- the numbers from a place on whose flag is set, ascending
unfoldable pub members_from : List Bool → ℕ → List ℕ
members_from flags from =
    filter (λ k. slice_index_or flags k false) (range_with_len from (length flags - from))

-- the numbers whose flag is set, ascending
abbrev pub members : List Bool → List ℕ
members flags = members_from flags 0

-- the first number from a place on whose flag is set, and none where there is none
abbrev pub IsFirstMember : List Bool → ℕ → Option ℕ → Type 0
IsFirstMember flags from result =
    MatchOption result (members_from flags from ≡ [])
    (λ el. (el < length flags) × (members_from flags from ≡ el ∷ members_from flags (el + 1)))
