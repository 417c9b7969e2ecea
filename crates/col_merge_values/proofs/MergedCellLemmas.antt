-- Cells of merged columns are those of the rows that the order picks.
use Rattle.std.proofs.Common.{◌≡◌, ℕ, List, [], ◌∷◌, length, map, slice_get, slice_index, Some, None, refl, sym, ap, ap₂, ◌∙◌}
use Rattle.std.specs.List.{AllByRecursion}
use Rattle.std.proofs.lemmas.List.{length-map}
use Rattle.std.proofs.lemmas.List.Elements.{recursion_from_All}
use Rattle.col_model.specs.Category.{Slot}
use Rattle.col_model.specs.Dictionary.{cut}
use Rattle.col_model.specs.File.{Part}
use Rattle.col_model.specs.Index.{Shape, empty_shape}
use Rattle.col_model.specs.Merge.{cells_in, whole_column_in}
use Rattle.col_model.specs.Table.{Cell, Column}
use Rattle.col_order.specs.Orders.{picks_of}
use Rattle.col_column.specs.Columns.{counts_by, rows_by, row_at}
use Rattle.col_column.proofs.RowLemmas.{row-empty}
use Rattle.col_indexer.specs.Merged.{IsMerged, merged_counts}
use Rattle.col_indexer.specs.Spelling.{Index, index_shape}
use Rattle.col_column.proofs.CellLemmas.{cut-map, row-map}
use Rattle.col_merge_values.specs.Laws.{CountsPicked, MergedCellsArePicked}
use Rattle.col_merge_values.specs.Merges.{SegmentColumns, segment_shape, segment_values, picked_row, merged_rows, Merge}
use Rattle.col_merge_values.specs.TermColumns.{remapped}
use Rattle.col_merge_values.proofs.MergedRowLemmas.{merged-rows}

-- ---- the premises of merged indexes

-- a merged index counts the picked rows
pub merged-counts : {T : Type 0} (m : Merge T) (i : Index) → IsMerged m.order m.columns.shapes i
    → CountsPicked m (index_shape i) (merged_counts m.order m.columns.shapes)
merged-counts m i is = (is, refl)

-- ---- cells

-- rows of mapped values are the rows, mapped
pub rows-map : {A B : Type 0} (f : A → B) (s : Shape) (xs : List A) → rows_by s (map f xs) ≡ map (map f) (rows_by s xs)
unfolding rows_by
rows-map f s xs = ap (λ n. cut (counts_by s n) (map f xs)) (length-map xs f) ∙ cut-map f (counts_by s (length xs)) xs

-- a picked row of ordinals that are turned
pub row-remapped : (m ords : List ℕ) (s : Shape) (d : ℕ) → row_at (rows_by s (remapped m ords)) d ≡ remapped m (row_at (rows_by s ords) d)
row-remapped m ords s d = ap (λ rows. row_at rows d) (rows-map (slice_index m) s ords) ∙ row-map (slice_index m) (rows_by s ords) d

module _ {T : Type 0} (cell : T → Cell) (slot : Slot) (parts : List Part) (c : SegmentColumns T) (p : ℕ × ℕ) (part : Part)
    (there : slice_get parts p.0 ≡ Some part) where
  -- the cells of a row of a part that has the column
  pub cells-there : (column : Column) → whole_column_in slot part ≡ Some column
      → column.content.rows ≡ map (map cell) (rows_by (segment_shape c p.0) (segment_values c p.0))
      → cells_in slot parts p ≡ map cell (picked_row c p)
  cells-there column e rows = rw (there, e, rows) (row-map cell (rows_by (segment_shape c p.0) (segment_values c p.0)) p.1)

  -- of one that lacks it
  pub cells-absent : (n : ℕ) → whole_column_in slot part ≡ None → segment_shape c p.0 ≡ empty_shape n
      → cells_in slot parts p ≡ map cell (picked_row c p)
  unfolding rows_by
  cells-absent n e shape = rw (there, e, shape) (sym (ap (map cell) (row-empty n (segment_values c p.0) p.1)))

-- the cells of picked rows
picked-cells : {T : Type 0} (cell : T → Cell) (slot : Slot) (parts : List Part) (c : SegmentColumns T) (ps : List (ℕ × ℕ))
    → AllByRecursion (λ p. cells_in slot parts p ≡ map cell (picked_row c p)) ps
    → map (map cell) (merged_rows c ps) ≡ map (cells_in slot parts) ps
picked-cells cell slot parts c [] all = refl
picked-cells cell slot parts c (p ∷ ps) all = ap₂ (λ a b. a ∷ b) (sym all.0) (picked-cells cell slot parts c ps all.1)

-- merged values as cells
pub merged-cells : (T : Type 0) → MergedCellsArePicked T
merged-cells T cell slot parts m s counts is ordered counted cells =
    ap (map (map cell)) (merged-rows T m s counts is ordered counted).rows
    ∙ picked-cells cell slot parts m.columns (picks_of m.order) (recursion_from_All _ (picks_of m.order) cells)
