-- The order of cells: it is total, and cells that tie are one.
use Rattle.std.proofs.Common.{◌≡◌, ℤ, ℕ, zero, suc, List, refl, sym, ◌∙◌}
use Rattle.std.specs.Ordering.{nat_cmp, int_cmp}
use Rattle.std.specs.Cmp.Lexicographic.{slice_cmp}
use Rattle.std.specs.FinMap.{IsAntisymmetric, nat_cmp-IsAntisymmetric, int_cmp-IsAntisymmetric, slice_cmp-IsAntisymmetric}
use Rattle.col_common.proofs.OctetLemmas.{then_equal}
use Rattle.col_facet.specs.Cells.{cell_cmp, kind_place, num_in, addr_in, term_in}
use Rattle.col_facet.specs.declared.facet_cell.FacetCell.{FacetCell}
use Rattle.col_facet.specs.declared.facet_cell.FacetCell.TheVariants.{Num, Addr, Term}

cell_at : ℕ → ℤ → ℕ → List ℕ → FacetCell
cell_at zero z n t = Num z
cell_at (suc zero) z n t = Addr n
cell_at (suc (suc k)) z n t = Term t

cell-back : (c : FacetCell) → cell_at (kind_place c) (num_in c) (addr_in c) (term_in c) ≡ c
unfolding cell_at
cell-back (Num z) = refl
cell-back (Addr n) = refl
cell-back (Term t) = refl

-- cells that tie are one
pub cells-apart : IsAntisymmetric cell_cmp
cells-apart a b e =
    let kind = then_equal (nat_cmp (kind_place a) (kind_place b)) _ e in
    let num = then_equal (int_cmp (num_in a) (num_in b)) _ kind.1 in
    let addr = then_equal (nat_cmp (addr_in a) (addr_in b)) (slice_cmp nat_cmp (term_in a) (term_in b)) num.1 in
    let k = nat_cmp-IsAntisymmetric (kind_place a) (kind_place b) kind.0 in
    let z = int_cmp-IsAntisymmetric (num_in a) (num_in b) num.0 in
    let n = nat_cmp-IsAntisymmetric (addr_in a) (addr_in b) addr.0 in
    let t = slice_cmp-IsAntisymmetric nat_cmp-IsAntisymmetric (term_in a) (term_in b) addr.1 in
    sym (cell-back a) ∙ (λ i. cell_at (k i) (z i) (n i) (t i)) ∙ cell-back b
