-- Which rows a merge takes, in which order. States docs/RULES.md, Merged tables.
use Rattle.std.specs.Prelude.{ℕ, ◌&&◌, nat_lt, Bool, false, List, map, slice_get, unwrap_or, option_map, flat_map, Option}
use Rattle.std.specs.Bool.{nat_eq}
use Rattle.std.specs.List.{list_all, range_with_len, enumerate_from}
use Rattle.std.specs.Cmp.Lexicographic.{pointwise}
use Rattle.col_common.specs.Reading.{only_if}

-- Both orders know the row counts of their segments. A shuffle names each row by segment and row.
pub data Order : Type 0 where
  stack : List ℕ → Order
  shuffle : List ℕ → List (ℕ × ℕ) → Order

-- all rows, segment after segment
abbrev pub all_rows : List ℕ → List (ℕ × ℕ)
all_rows counts =
    flat_map (λ p. map (λ r. (p.0, r)) (range_with_len 0 p.1)) (enumerate_from 0 counts)

-- the segment has the row
abbrev pub has_row : List ℕ → ℕ × ℕ → Bool
has_row counts p = unwrap_or (option_map (λ n. nat_lt p.1 n) (slice_get counts p.0)) false

-- The rows that the order picks, as (segment, row). None where an address is missing or the
-- order's row counts are others.
unfoldable pub picks : Order → List ℕ → Option (List (ℕ × ℕ))
picks (stack own) counts = only_if (pointwise nat_eq own counts) (all_rows counts)
picks (shuffle own addresses) counts =
    only_if (pointwise nat_eq own counts && list_all (has_row counts) addresses) addresses
