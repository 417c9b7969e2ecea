-- Rows with a value and where their values start.
use Rattle.std.specs.Prelude.{◌≡◌, ℕ, ◌+◌, ◌-◌, ◌^◌, ◌==◌, ◌≤◌, ◌&&◌, Bool, true, List, [], ◌∷◌, length, map, flat_map, slice_index, sum, Option, if◌then◌else◌}
use Rattle.std.specs.List.{range_with_len}
use Rattle.col_common.specs.Reading.{only_if}
use Rattle.col_common.specs.Ascending.{is_rising, is_never_falling, are_below}
use Rattle.col_model.specs.Index.{RowSet, RowOffsets, Shape, empty_shape, full_shape, optional_shape, multivalued_shape, are_starts, are_offsets}
use Rattle.col_model.specs.Positions.{values_in, count_in, index_range, positions_in}
use Rattle.col_model.specs.Table as tables
use Rattle.col_index.specs.Sets.{AreRows}

-- rows with a value, and their start offsets
pub record AreOffsets (o : RowOffsets) : Type 0 where
  pub rows : AreRows o.set
  pub starts : are_starts o ≡ true

-- the list has the start offsets of so many rows
abbrev pub is_start_list : ℕ → List ℕ → Bool
is_start_list n starts = are_offsets starts && is_rising starts && (length starts == n + 1)

-- the set with these offsets, where they are its own
abbrev pub offsets_by : RowSet → List ℕ → Option RowOffsets
offsets_by set starts =
    only_if (is_start_list (length set.rows) starts) (record { set = set; starts = starts })

-- the offsets, where they are those of version 1
abbrev pub old_offsets_by : List ℕ → Option (List ℕ)
old_offsets_by starts = only_if (are_offsets starts && is_never_falling starts) starts

-- behind a number, the list without each item that equals the one before it
abbrev pub changes_behind : ℕ → List ℕ → List ℕ
changes_behind last [] = []
changes_behind last (x ∷ xs) =
    let later = changes_behind x xs in if x == last then later else x ∷ later

-- the list without each item that equals the one before it
abbrev pub without_repeats : List ℕ → List ℕ
without_repeats [] = []
without_repeats (x ∷ xs) = x ∷ changes_behind x xs

-- one start offset more than rows, from 0 on, which never fall; at most 2 ^ 32 - 1 of them
pub record AreOldOffsets (starts : List ℕ) : Type 0 where
  pub offsets : are_offsets starts ≡ true
  pub never_fall : is_never_falling starts ≡ true
  pub few : length starts ≤ 2 ^ 32 - 1

-- the positions of a row's values, and 0 to 0 where it has none
abbrev pub range_if_any : List ℕ → ℕ → ℕ × ℕ
range_if_any counts row = if slice_index counts row == 0 then (0, 0) else index_range counts row

-- the same of any shape
abbrev pub positions_if_any : Shape → ℕ → ℕ × ℕ
positions_if_any s row = if count_in s row == 0 then (0, 0) else positions_in s row

-- so many positions from one on, each beside a row
abbrev pub run : ℕ → ℕ → ℕ → List (ℕ × ℕ)
run row start count = map (λ p. (row, p)) (range_with_len start count)

-- the values of rows, each value as its row and its position
unfoldable pub positions_of_rows : Shape → List ℕ → List (ℕ × ℕ)
positions_of_rows s rows = flat_map (values_in s) rows

-- the same by counts
abbrev pub row_positions : List ℕ → List ℕ → List (ℕ × ℕ)
row_positions counts rows = positions_of_rows (multivalued_shape counts) rows

-- the rows of these values, and their positions
abbrev pub found_rows : List (ℕ × ℕ) → List ℕ
found_rows ps = map (λ p. p.0) ps

abbrev pub positions_of : List (ℕ × ℕ) → List ℕ
positions_of ps = map (λ p. p.1) ps

-- the cardinality of a shape; without rows it is Full
abbrev pub cardinality_in : Shape → tables.Cardinality
cardinality_in (empty_shape n) = if n == 0 then tables.full else tables.optional
cardinality_in full_shape = tables.full
cardinality_in (optional_shape cs) = tables.optional
cardinality_in (multivalued_shape cs) = tables.multivalued

-- ascending positions of values of a shape, none before the values of a row
abbrev pub AreInside : Shape → List ℕ → Type 0
AreInside (empty_shape n) positions = length positions ≡ 0
AreInside full_shape positions = Unit {0}
AreInside (optional_shape cs) positions = are_below (sum cs) positions ≡ true
AreInside (multivalued_shape cs) positions = are_below (sum cs) positions ≡ true
