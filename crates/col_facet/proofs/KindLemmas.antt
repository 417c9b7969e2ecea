-- Totals of counts of columns of one kind.
use Rattle.std.proofs.Common.{◌≡◌, ℕ, List, [], ◌∷◌, ◌++◌, flat_map, if◌then◌else◌, refl, sym, ◌∙◌, ap, ap₂}
use Rattle.std.specs.List.{AllByRecursion}
use Rattle.std.proofs.lemmas.List.{map-append}
use Rattle.col_model.specs.ColumnType.{ColumnType}
use Rattle.col_model.specs.Table.{Cell, number, text}
use Rattle.col_facet.specs.Facets.{totals_of, facet_cell, address_cell, counted_as, IsOfKind, TotalsAreSums, TotalsOfAllAreSums}
use Rattle.col_facet.specs.declared.facet_cell.FacetCell.{FacetCell}
use Rattle.col_facet.specs.declared.facet_cell.FacetCell.TheVariants.{Num}
use Rattle.col_facet.specs.declared.facet_cell.FacetCount.{FacetCount}
use Rattle.col_facet.proofs.CellLemmas.{sums-of-counts, sums-of-both}

cell-of-kind : (t u : ColumnType) → IsOfKind t u → (c : Cell) → facet_cell u c ≡ facet_cell t c
cell-of-kind t u e (text b) = refl
cell-of-kind t u e (number z) = ap (λ b. if b then address_cell z else Num z) (sym e)

counted-of-kind : (t u : ColumnType) → IsOfKind t u → (ps : List (Cell × ℕ)) → counted_as u ps ≡ counted_as t ps
counted-of-kind t u e [] = refl
counted-of-kind t u e (p ∷ ps) =
    ap₂ (λ (c : FacetCell) (fs : List FacetCount). record { cell = c; count = p.1 } ∷ fs) (cell-of-kind t u e p.0)
    (counted-of-kind t u e ps)

all-counted-of-kind : (t : ColumnType) (lists : List (ColumnType × List (Cell × ℕ)))
    → AllByRecursion (λ l. IsOfKind t l.0) lists
    → flat_map (λ l. counted_as l.0 l.1) lists ≡ counted_as t (flat_map (λ l. l.1) lists)
all-counted-of-kind t [] all = refl
all-counted-of-kind t (l ∷ lists) all =
    ap₂ (λ xs ys. xs ++ ys) (counted-of-kind t l.0 all.0 l.1) (all-counted-of-kind t lists all.1)
    ∙ sym (map-append (λ (p : Cell × ℕ). let r : FacetCount = record { cell = facet_cell t p.0; count = p.1 } in r) l.1
    (flat_map (λ l. l.1) lists))

-- the totals of counts of two columns of one kind
pub totals-of-two : TotalsAreSums
totals-of-two t u v ps qs e f =
    ap₂ (λ xs ys. totals_of (xs ++ ys)) (counted-of-kind t u e ps) (counted-of-kind t v f qs) ∙ sums-of-both t ps qs

-- the totals of counts of columns of one kind
pub totals-of-all : TotalsOfAllAreSums
totals-of-all t lists all =
    ap totals_of (all-counted-of-kind t lists all) ∙ sums-of-counts t (flat_map (λ l. l.1) lists)
