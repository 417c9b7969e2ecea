-- Laws of merged values: public calls ensure them, and have nothing else to do.
use Rattle.std.specs.Prelude.{◌≡◌, List, map, length, Some}
use Rattle.std.specs.List.{All}
use Rattle.col_model.specs.Category.{Slot}
use Rattle.col_model.specs.File.{Part}
use Rattle.col_model.specs.Index.{Counts, Shape, counts_over}
use Rattle.col_model.specs.Merge.{cells_in}
use Rattle.col_model.specs.Order.{picks}
use Rattle.col_model.specs.Positions.{picked_counts}
use Rattle.col_model.specs.Table.{Cell}
use Rattle.col_order.specs.Orders.{counts_of, picks_of}
use Rattle.col_column.specs.Columns.{row_count, IsCounted, rows_by}
use Rattle.col_merge_values.specs.Merges.{Merge, IsMerge, picked_row, merged_rows, values_of}

-- each row that the order picks is one of its segment
abbrev pub IsOrdered : {T : Type 0} → Merge T → Type 0
IsOrdered m = picks m.order (counts_of m.order) ≡ Some (picks_of m.order)

-- a shape counts the picked rows, by whatever cardinality
abbrev pub CountsPicked : {T : Type 0} → Merge T → Shape → Counts → Type 0
CountsPicked m s counts = (counts_over (length (picks_of m.order)) s ≡ Some counts)
    × (counts.of_rows ≡ picked_counts m.columns.shapes (picks_of m.order))

-- so many rows, exactly the picked values, and the picked rows
pub record HasPickedRows {T : Type 0} (m : Merge T) (s : Shape) : Type 0 where
  pub num_rows : row_count s (length (values_of m)) ≡ length (picks_of m.order)
  pub counted : IsCounted s (length (values_of m))
  pub rows : rows_by s (values_of m) ≡ merged_rows m.columns (picks_of m.order)

-- Behind a shape that counts the picked rows the merged values are a column of them.
abbrev pub MergedValuesAreRows : (T : Type 0) → Type 0
MergedValuesAreRows T = (m : Merge T) (s : Shape) (counts : Counts) → IsMerge m → IsOrdered m
    → CountsPicked m s counts → HasPickedRows m s

-- the cells of each picked row under a slot are its values, as cells
abbrev pub HaveCells : {T : Type 0} → (T → Cell) → Slot → List Part → Merge T → Type 0
HaveCells cell slot parts m =
    All (λ p. cells_in slot parts p ≡ map cell (picked_row m.columns p)) (picks_of m.order)

-- Then the cells of the column are those of the rows that the order picks.
abbrev pub MergedCellsArePicked : (T : Type 0) → Type 0
MergedCellsArePicked T = (cell : T → Cell) (slot : Slot) (parts : List Part) (m : Merge T)
    (s : Shape) (counts : Counts) → IsMerge m → IsOrdered m → CountsPicked m s counts
    → HaveCells cell slot parts m
    → map (map cell) (rows_by s (values_of m)) ≡ map (cells_in slot parts) (picks_of m.order)
