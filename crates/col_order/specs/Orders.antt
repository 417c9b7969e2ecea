-- What row orders mean. States docs/RULES.md, Merged tables.
use Rattle.std.specs.Prelude.{◌≡◌, ℕ, ◌+◌, ◌^◌, ◌<◌, ◌==◌, ◌&&◌, ◌||◌, not, nat_le, nat_lt, Bool, true, List, length, map, Option, Some, None, Result, Ok, Err, if◌then◌else◌}
use Rattle.std.specs.List.{list_all, list_any, range_with_len}
use Rattle.col_common.specs.declared.row.RowAddr.{RowAddr}
use Rattle.col_common.specs.declared.error.ColumnarError.{ColumnarError}
use Rattle.col_common.specs.declared.error.ColumnarError.TheVariants.{BadOrder, TooLarge}
use Rattle.col_model.specs.Order.{Order, stack, shuffle, all_rows, has_row}
use Rattle.col_model.specs.Positions.{start_of}

-- the segment and the row that an address names
abbrev pub address_of : RowAddr → ℕ × ℕ
address_of a = (a.segment_ord, a.row_id)

-- the row counts of segments, and the rows that a shuffle names in them
pub record Shuffle : Type 0 where
  pub counts : List ℕ
  pub addresses : List (ℕ × ℕ)

-- for each row of a segment, whether it is named
unfoldable pub named_rows : List (ℕ × ℕ) → ℕ → ℕ → List Bool
named_rows addresses segment n = map
    (λ row. list_any (λ a. (a.0 == segment) && (a.1 == row)) addresses) (range_with_len 0 n)

-- The refusal of a shuffle: a row that no segment has; more than 2 ^ 32 - 1 rows.
abbrev pub shuffle_refusal : List ℕ → List (ℕ × ℕ) → Option ColumnarError
shuffle_refusal counts addresses =
    if list_all (has_row counts) addresses
    then (if nat_le (2 ^ 32) (length addresses) then Some TooLarge else None)
    else Some BadOrder

-- where the rows of each segment start, and behind the last where they end
abbrev pub offsets_of : List ℕ → List ℕ
offsets_of counts = map (start_of counts) (range_with_len 0 (length counts + 1))

-- segments with their offsets
pub record IsStack (counts offsets : List ℕ) : Type 0 where
  pub offsets_are : offsets ≡ offsets_of counts
  pub fits : start_of counts (length counts) < 2 ^ 32

-- rows that are named in a segment are below a count
abbrev pub AreWithin : ℕ → ℕ → List (ℕ × ℕ) → Type 0
AreWithin segment n addresses =
    list_all (λ a. not (a.0 == segment) || nat_lt a.1 n) addresses ≡ true

-- each row that is named is there
pub record IsShuffle (s : Shuffle) : Type 0 where
  pub named : list_all (has_row s.counts) s.addresses ≡ true
  pub few : length s.addresses < 2 ^ 32

-- the row counts that an order knows
abbrev pub counts_of : Order → List ℕ
counts_of (stack counts) = counts
counts_of (shuffle counts addresses) = counts

-- the rows that an order picks, as (segment, row)
abbrev pub picks_of : Order → List (ℕ × ℕ)
picks_of (stack counts) = all_rows counts
picks_of (shuffle counts addresses) = addresses

-- a result's refusal
abbrev pub error_of : {T : Type 0} → Result T ColumnarError → Option ColumnarError
error_of (Ok value) = None
error_of (Err e) = Some e
