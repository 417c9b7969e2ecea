-- Rows of a set by the values that they have. States docs/RULES.md, Sets of segments.
use Rattle.std.specs.Prelude.{◌≡◌, ℕ, Bool, true, List, Option, find, length, option_map, IfSome}
use Rattle.col_dynamic.specs.Dynamic.{type_of, content_of}
use Rattle.col_dynamic.specs.declared.dynamic_column.DynamicColumn.{DynamicColumn}
use Rattle.col_merge.specs.Segments.{column_seen}
use Rattle.col_model.specs.Category.{Slot, slot_of, same_slot}
use Rattle.col_model.specs.ColumnType.{ColumnType}
use Rattle.col_model.specs.Table.{Table}
use Rattle.col_places.specs.Places.{places_of}
use Rattle.col_places.specs.Ranges.{are_cells_of}
pub use Rattle.col_places.specs.Ranges.{is_row_between}
use Rattle.col_program.specs.Queries.{End}
use Rattle.col_segments.specs.Live.{Row}

-- a row has a value from one end to the other under the name and the type's category
abbrev pub has_value : List ℕ → ColumnType → End → End → Row → Bool
has_value name t lo hi row = is_row_between t lo hi (row (slot_of name t))

-- the places of the rows that have such a value, ascending
abbrev pub places_between : List ℕ → ColumnType → End → End → List Row → List ℕ
places_between name t lo hi rows = places_of 0 (has_value name t lo hi) rows

-- the column has the table's rows, with cells of its type
pub record FitsTable (t : Table) (c : DynamicColumn) : Type 0 where
  pub rows : length (content_of c).rows ≡ t.row_count
  pub cells : are_cells_of (type_of c) (content_of c) ≡ true

-- the same of a column that may be absent
abbrev pub MayFit : Table → Option DynamicColumn → Type 0
MayFit t o = IfSome o (FitsTable t)

-- the table's column of a slot is the one that was opened, or there is none
abbrev pub HasColumn : Slot → Table → Option DynamicColumn → Type 0
HasColumn slot t o = find (λ c. same_slot (slot_of c.name c.column_type) slot) t.columns
    ≡ option_map (column_seen slot.name) o
