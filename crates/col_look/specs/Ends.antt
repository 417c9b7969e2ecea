-- The first and the last of items in an order, and of the cells of a column.
use Rattle.std.specs.Prelude.{List, [], ◌∷◌, Option, Some, None, if◌then◌else◌}
use Rattle.std.specs.Ordering.{is_gt}
use Rattle.std.specs.declared.cmp.Ordering.{Ordering}
use Rattle.col_model.specs.Facets.{cell_order}
use Rattle.col_model.specs.Table.{Cell, Content}
use Rattle.col_model.specs.U64List.{joined_lists}

-- the cells of all rows, one row behind another
abbrev pub cells_of : Content → List Cell
cells_of content = joined_lists content.rows

-- the one that stands before the other, or the first of two that tie
abbrev pub earlier : {A : Type 0} → (A → A → Ordering) → A → Option A → A
earlier cmp x None = x
earlier cmp x (Some y) = if is_gt (cmp x y) then y else x

-- the item that none stands before
unfoldable pub first_by : {A : Type 0} → (A → A → Ordering) → List A → Option A
first_by cmp [] = None
first_by cmp (x ∷ xs) = Some (earlier cmp x (first_by cmp xs))

-- the item that none stands behind
abbrev pub last_by : {A : Type 0} → (A → A → Ordering) → List A → Option A
last_by cmp xs = first_by (λ x y. cmp y x) xs

-- the least cell, and the greatest one
abbrev pub least_cell : List Cell → Option Cell
least_cell cells = first_by cell_order cells

abbrev pub greatest_cell : List Cell → Option Cell
greatest_cell cells = last_by cell_order cells
