-- Cells behind their counts.
use Rattle.std.specs.Prelude.{◌≡◌, ℕ, Bool, false, not, List, [], ◌∷◌, map}
use Rattle.std.specs.List.{AllByRecursion}
use Rattle.std.specs.Ordering.{nat_cmp, ordering_then, is_lt, is_gt}
use Rattle.std.specs.declared.cmp.Ordering.{Ordering}
use Rattle.std.specs.declared.cmp.Reverse.{Reverse}
use denote.Ref.{Bor}
use Rattle.col_facet.specs.Cells.{cell_cmp}
use Rattle.col_facet.specs.Facets.{rank_cmp}
use Rattle.col_facet.specs.declared.facet_cell.FacetCell.{FacetCell}
use Rattle.col_facet.specs.declared.facet_cell.FacetCount.{FacetCount}

-- the count of a cell that stands behind it
abbrev pub ranked_count : Reverse ℕ × Bor FacetCell → FacetCount
ranked_count p = record { cell = p.1.now; count = p.0.0 }

-- the same of all
abbrev pub ranked_counts : List (Reverse ℕ × Bor FacetCell) → List FacetCount
ranked_counts ranked = map ranked_count ranked

-- by falling count, then by cell
abbrev pub ranked_cmp : Reverse ℕ × Bor FacetCell → Reverse ℕ × Bor FacetCell → Ordering
ranked_cmp p q = ordering_then (nat_cmp q.0.0 p.0.0) (cell_cmp p.1.now q.1.now)

-- the one ranks before the other, or with it
abbrev pub in_rank : FacetCount → FacetCount → Bool
in_rank f g = not (is_gt (rank_cmp f g))

-- none ranks before one in front of it
abbrev pub AreRanked : List FacetCount → Type 0
AreRanked [] = Unit {0}
AreRanked (f ∷ fs) = AllByRecursion (λ g. is_lt (rank_cmp g f) ≡ false) fs × AreRanked fs
