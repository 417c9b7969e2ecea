-- Cells of facets, and their order.
use Rattle.std.specs.Prelude.{◌≡◌, ℕ, ℤ, pos, List, []}
use Rattle.std.specs.Cmp.{IsTotalOrder}
use Rattle.std.specs.Cmp.Lexicographic.{slice_cmp}
use Rattle.std.specs.Ordering.{nat_cmp, int_cmp, on, then_cmp}
use Rattle.std.specs.declared.cmp.Ordering.{Ordering}
use Rattle.std.proofs.lemmas.Cmp.{then_total, on_total, nat_cmp_total, int_cmp_total, nat_list_cmp_total}
use Rattle.col_facet.specs.declared.facet_cell.FacetCell.{FacetCell}
use Rattle.col_facet.specs.declared.facet_cell.FacetCell.TheVariants.{Num, Addr, Term}

-- numbers before addresses before terms
abbrev pub kind_place : FacetCell → ℕ
kind_place (Num z) = 0
kind_place (Addr n) = 1
kind_place (Term t) = 2

-- the number of a cell, its address and its bytes; 0, 0 and none where it is of another kind
abbrev pub num_in : FacetCell → ℤ
num_in (Num z) = z
num_in (Addr n) = pos 0
num_in (Term t) = pos 0

abbrev pub addr_in : FacetCell → ℕ
addr_in (Num z) = 0
addr_in (Addr n) = n
addr_in (Term t) = 0

abbrev pub term_in : FacetCell → List ℕ
term_in (Num z) = []
term_in (Addr n) = []
term_in (Term t) = t

-- by kind, then by value, or byte by byte
abbrev pub cell_cmp : FacetCell → FacetCell → Ordering
cell_cmp = then_cmp (on kind_place nat_cmp) (then_cmp (on num_in int_cmp)
    (then_cmp (on addr_in nat_cmp) (on term_in (slice_cmp nat_cmp))))

-- cells compare in a total order
pub cells_total : IsTotalOrder cell_cmp
cells_total =
    then_total (on_total kind_place nat_cmp_total) (then_total (on_total num_in int_cmp_total)
    (then_total (on_total addr_in nat_cmp_total) (on_total term_in nat_list_cmp_total)))

-- cells compare as the values that they stand for
abbrev pub KeepsOrder : {T : Type 0} → (T → T → Ordering) → (T → FacetCell) → Type 0
KeepsOrder {T = T} cmp cell = (a b : T) → cell_cmp (cell a) (cell b) ≡ cmp a b
