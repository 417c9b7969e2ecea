-- Rows as bits of words, which are set where a row is dropped.
use Rattle.std.specs.Prelude.{◌≡◌, ◌≤◌, ℕ, zero, suc, ◌+◌, ◌*◌, not, cond, Bool, List, length, map, filter}
use Rattle.std.specs.List.{range_with_len}
use Rattle.col_common.specs.Flags.{flag_at}

-- how many bits before one are set
abbrev pub set_below : List ℕ → ℕ → ℕ
set_below words zero = 0
set_below words (suc k) = cond (flag_at words k) 1 0 + set_below words k

-- the bit of a row isn't set
abbrev pub is_clear : List ℕ → ℕ → Bool
is_clear words row = not (flag_at words row)

-- the rows below n whose bit isn't set, ascending
abbrev pub clear_rows : List ℕ → ℕ → List ℕ
clear_rows words n = filter (is_clear words) (range_with_len 0 n)

-- there is a bit for each of n rows, and those that aren't set are counted
pub record CountsClear (words : List ℕ) (n count : ℕ) : Type 0 where
  pub room : n ≤ 64 * length words
  pub counted : count ≡ length (clear_rows words n)

-- The places of the rows whose bit isn't set: how many such rows are before each, counted from the
-- first one's place on.
abbrev pub clear_places : ℕ → List ℕ → List ℕ → List ℕ
clear_places first words rows =
    map (λ row. first + length (clear_rows words row)) (filter (is_clear words) rows)
