-- The facets of a stack of tables are the sums of the tables' facets.
use Rattle.std.proofs.Common.{◌≡◌, ℕ, zero, suc, Bool, true, false, List, [], ◌∷◌, ◌++◌, map, length, replicate, flat_map, Some, None, refl, sym, ◌∙◌, ap, ap₂, option_map, unwrap_or}
use Rattle.std.specs.Prelude.{Option}
use Rattle.std.specs.List.{AllByRecursion, range_with_len}
use Rattle.col_common.specs.Reading.{only_if}
use Rattle.col_model.specs.Category.{Slot}
use Rattle.col_model.specs.Table.{Cell, Content, Column, Table}
use Rattle.col_model.specs.Facets.{facet_of, counts_of_cells, sums_of_counts}
use Rattle.col_model.specs.File.{part_of_table}
use Rattle.col_model.specs.Lookup.{row_of}
use Rattle.col_model.specs.Sound.{IsSound}
use Rattle.col_model.specs.Soundness.{HasSoundColumns}
use Rattle.col_model.specs.Sorted.{distinct_items}
use Rattle.col_model.specs.U64List.{joined_lists}
use Rattle.col_model.proofs.ConflictLaws.{shaped-sound}
use Rattle.col_model.proofs.DecodedTables.{parts-have-sound-columns}
use Rattle.col_model.proofs.SeenLaws.{column_at, has_cell, keep, seen_at, rows_or, seen_rows, joined-append}
use Rattle.col_model.proofs.StackSeen.{ranged-rows, empty-rows, rows-stack}
use Rattle.col_laws.specs.FacetLaws.{facet_under, FacetsOfStacksAreSummed}
use Rattle.col_laws.proofs.CountLemmas.{counts-of-parts}
use Rattle.col_laws.proofs.StackLemmas.{cells_of, stack-cells}

-- all cells of a table's column, none where there is no such column
abbrev cells_under : Slot → Table → List Cell
cells_under slot t = cells_of (column_at slot t)

flat-joined : {A B : Type 0} (f : A → List B) (xs : List A) → flat_map f xs ≡ joined_lists (map f xs)
flat-joined f [] = refl
flat-joined f (x ∷ xs) = ap (λ r. f x ++ r) (flat-joined f xs)

-- the cells in all rows are those of the rows, one behind another
all-rows : (c : Content) → flat_map (row_of c) (range_with_len 0 (length c.rows)) ≡ joined_lists c.rows
all-rows c =
    flat-joined (row_of c) (range_with_len 0 (length c.rows)) ∙ ap joined_lists (ranged-rows c (length c.rows) refl)

no-counts : [] ≡ counts_of_cells []
unfolding counts_of_cells distinct_items
no-counts = refl

-- the facets of a table's column are the counts of its cells
facet-cells : (slot : Slot) (t : Table) → facet_under slot t ≡ counts_of_cells (cells_under slot t)
facet-cells slot t = by (column_at slot t)
  where
    by : (o : Option Column)
        → unwrap_or (option_map (λ c. facet_of c.content (range_with_len 0 (length c.content.rows))) o) []
        ≡ counts_of_cells (cells_of o)
    by None = no-counts
    by (Some c) = ap counts_of_cells (all-rows c.content)

-- ---- what a stack sees

joined-empty : (n : ℕ) → ◌≡◌ {A = List Cell} (joined_lists (replicate n [])) []
joined-empty zero = refl
joined-empty (suc n) = joined-empty n

-- the cells of the rows that a stack sees of a table are those of its column
seen-cells : (slot : Slot) (t : Table) → joined_lists (seen_rows (seen_at slot t)) ≡ cells_under slot t
seen-cells slot t = by (column_at slot t)
  where
    kept : (c : Column) (b : Bool) → has_cell c ≡ b
        → joined_lists (rows_or t.row_count (only_if b c)) ≡ joined_lists c.content.rows
    kept c true e = refl
    kept c false e =
        joined-empty t.row_count
        ∙ sym (ap joined_lists (empty-rows c.content.rows e) ∙ joined-empty (length c.content.rows))

    by : (o : Option Column) → joined_lists (rows_or t.row_count (keep o)) ≡ cells_of o
    by None = joined-empty t.row_count
    by (Some c) = kept c (has_cell c) refl

all-seen : (slot : Slot) (ts : List Table)
    → joined_lists (flat_map seen_rows (map (seen_at slot) ts)) ≡ flat_map (cells_under slot) ts
all-seen slot [] = refl
all-seen slot (t ∷ ts) =
    joined-append (seen_rows (seen_at slot t)) (flat_map seen_rows (map (seen_at slot) ts))
    ∙ ap₂ (λ xs ys. xs ++ ys) (seen-cells slot t) (all-seen slot ts)

-- ---- the law

sound-parts : (ts : List Table) → AllByRecursion IsSound ts → AllByRecursion HasSoundColumns (map part_of_table ts)
sound-parts [] sound = tt
sound-parts (t ∷ ts) sound = (parts-have-sound-columns.of_table t sound.0, sound-parts ts sound.1)

-- The facets of a stack's column are the sums of those of the tables' columns.
pub facets-of-stacks-are-summed : FacetsOfStacksAreSummed
facets-of-stacks-are-summed ts required own x slot sound e =
    let cells : cells_under slot x ≡ flat_map (cells_under slot) ts =
    stack-cells (map part_of_table ts) required own x slot (sound-parts ts sound) e
    ∙ ap joined_lists (rows-stack slot ts (shaped-sound ts sound)) ∙ all-seen slot ts in
    facet-cells slot x ∙ ap counts_of_cells cells ∙ counts-of-parts (cells_under slot) ts
    ∙ ap sums_of_counts (λ i. flat_map (λ (t : Table). sym (facet-cells slot t) i) ts)
