-- Cells with their counts, put in order.
use Rattle.std.specs.Prelude.{ℕ, not, Bool, true, List, [], ◌∷◌, map}
use Rattle.std.specs.Ordering.{is_gt}
use denote.Ref.{Bor}
use Rattle.col_common.specs.Ascending.{all_adjacent}
use Rattle.col_facet.specs.Cells.{cell_cmp}
use Rattle.col_facet.specs.Facets.{same_cell}
use Rattle.col_facet.specs.declared.facet_cell.FacetCell.{FacetCell}
use Rattle.col_facet.specs.declared.facet_cell.FacetCount.{FacetCount}

-- the count of a cell that stands before it
abbrev pub listed_count : Bor FacetCell × ℕ → FacetCount
listed_count p = record { cell = p.0.now; count = p.1 }

-- the counts of cells that stand before them
abbrev pub listed_counts : List (Bor FacetCell × ℕ) → List FacetCount
listed_counts listed = map listed_count listed

-- no cell stands behind the next
abbrev pub are_in_order : List FacetCount → Bool
are_in_order fs = all_adjacent (λ f g. not (is_gt (cell_cmp f.cell g.cell))) fs

-- counts that are none of this cell's, or none at all, come next
abbrev pub begins_apart : FacetCell → List FacetCount → Bool
begins_apart c [] = true
begins_apart c (f ∷ fs) = not (same_cell c f.cell)
