-- Numbers of one numerical type seen as the other.
use Rattle.std.specs.Prelude.{ℕ, ℤ, pos, ◌+◌, ◌-◌, ◌^◌, ◌&&◌, nat_lt, nat_le, nat_abs, int_le, int_lt, Bool, true, false, List, map, Option}
use Rattle.std.specs.List.{list_all}
use Rattle.col_common.specs.Reading.{only_if}

-- a number that is at most the greatest signed one of 64 bits
abbrev pub fits_i64 : ℕ → Bool
fits_i64 n = nat_lt n (2 ^ 63)

-- a number that is at least 0
abbrev pub is_not_negative : ℤ → Bool
is_not_negative z = int_le (pos 0) z

-- the same of a signed number of 64 bits
abbrev pub fits_u64 : ℤ → Bool
fits_u64 z = is_not_negative z && int_lt z (pos (2 ^ 63))

-- the same numbers as signed ones, where all fit
abbrev pub as_i64 : List ℕ → Option (List ℤ)
as_i64 xs = only_if (list_all fits_i64 xs) (map pos xs)

-- the same numbers without a sign, where all fit
abbrev pub as_u64 : List ℤ → Option (List ℕ)
as_u64 xs = only_if (list_all is_not_negative xs) (map nat_abs xs)

-- a number of 64 bits in the lower half where it rises, else in the upper one
abbrev pub is_in_half : Bool → ℕ → Bool
is_in_half true n = nat_lt n (2 ^ 63)
is_in_half false n = nat_le (2 ^ 63) n && nat_lt n (2 ^ 64)

-- a number, up by half of all where it rises, else down
abbrev pub moved : Bool → ℕ → ℕ
moved true n = n + 2 ^ 63
moved false n = n - 2 ^ 63

-- and back
abbrev pub moved_back : Bool → ℕ → ℕ
moved_back true n = n - 2 ^ 63
moved_back false n = n + 2 ^ 63
