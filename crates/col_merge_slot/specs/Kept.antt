-- Which segments keep a column. States docs/RULES.md, Merged tables.
use Rattle.std.specs.Prelude.{◌≡◌, ℕ, ◌<◌, ◌==◌, ◌&&◌, not, Bool, true, false, List, map, length, slice_index_or, Option, Some, None}
use Rattle.std.specs.List.{list_any, range_with_len}
use Rattle.col_model.specs.Positions.{count_in}
use Rattle.col_column.specs.Columns.{IsCounted}
use Rattle.col_dynamic.specs.Dynamic.{type_of, dynamic_shape, value_count}
use Rattle.col_dynamic.specs.declared.dynamic_column.DynamicColumn.{DynamicColumn}
use Rattle.col_merge_slot.specs.Segments.{is_read_as}

-- a row of a segment's column has a value
abbrev pub has_value : Option DynamicColumn → ℕ → Bool
has_value None row = false
has_value (Some c) row = not (count_in (dynamic_shape c) row == 0)

-- some row of it has one
abbrev pub has_values : Option DynamicColumn → Bool
has_values None = false
has_values (Some c) = not (value_count c == 0)

-- a picked row of the segment has a value
abbrev pub keeps : List (Option DynamicColumn) → List (ℕ × ℕ) → ℕ → Bool
keeps columns picked k =
    list_any (λ q. (q.0 == k) && has_value (slice_index_or columns k None) q.1) picked

-- the same for each segment
abbrev pub kept_flags : List (Option DynamicColumn) → List (ℕ × ℕ) → List Bool
kept_flags columns picked = map (keeps columns picked) (range_with_len 0 (length columns))

-- the flags before a place are set
abbrev pub AreSet : List Bool → ℕ → Type 0
AreSet flags n = (k : ℕ) → k < n → slice_index_or flags k false ≡ true

-- a column has just the values that its index counts
abbrev pub IsCountedBy : DynamicColumn → Type 0
IsCountedBy c = IsCounted (dynamic_shape c) (value_count c)

-- the same of a segment's column
abbrev pub IsCountedIn : Option DynamicColumn → Type 0
IsCountedIn None = Unit {0}
IsCountedIn (Some c) = IsCountedBy c

-- each cell of a column is of the column's own type
abbrev pub IsOwn : DynamicColumn → Type 0
IsOwn c = is_read_as (type_of c) c ≡ true

-- the same of a segment's column
abbrev pub IsOwnIn : Option DynamicColumn → Type 0
IsOwnIn None = Unit {0}
IsOwnIn (Some c) = IsOwn c
