-- The first cells by falling count.
use Rattle.std.proofs.Common.{◌≡◌, ℕ, ◌≤◌, length, not, Bool, List, map, take, sym, ◌∙◌, ap, IsPermutation}
use Rattle.std.specs.List.Sorted.{IsSorted}
use Rattle.std.specs.declared.cmp.Reverse.{Reverse}
use Rattle.std.specs.Cmp.{IsTotalOrder}
use Rattle.std.specs.FinMap.{IsAntisymmetric, nat_cmp-IsAntisymmetric}
use Rattle.std.specs.Ordering.{nat_cmp, is_lt, is_gt}
use Rattle.std.proofs.lemmas.Cmp.{then_total, on_total, back_total, nat_cmp_total}
use Rattle.std.proofs.lemmas.List.{take-map, take_all}
use Rattle.std.proofs.lemmas.List.Sorted.{IsPermutation-map}
use denote.Ref.{Bor}
use Rattle.col_common.proofs.OctetLemmas.{then_equal}
use Rattle.col_model.specs.Sorted.{sorted_items}
use Rattle.col_facet.specs.Cells.{cell_cmp, cells_total}
use Rattle.col_facet.specs.Facets.{rank_cmp, top_of}
use Rattle.col_facet.specs.Ranked.{ranked_counts, ranked_cmp}
use Rattle.col_facet.specs.declared.facet_cell.FacetCell.{FacetCell}
use Rattle.col_facet.specs.declared.facet_cell.FacetCount.{FacetCount}
use Rattle.col_facet.proofs.OrderLemmas.{cells-apart}
use Rattle.col_facet.proofs.SortLemmas.{sorted-own, adjacent-sorted, adjacent-map}
use Rattle.col_model.proofs.SortLaws.{sorted-moved}

pub ranks_total : IsTotalOrder rank_cmp
ranks_total =
    then_total (back_total (on_total (λ (f : FacetCount). f.count) nat_cmp_total))
    (on_total (λ (f : FacetCount). f.cell) cells_total)

ranks-apart : IsAntisymmetric rank_cmp
ranks-apart f g e =
    let both = then_equal (nat_cmp g.count f.count) (cell_cmp f.cell g.cell) e in
    let count = sym (nat_cmp-IsAntisymmetric g.count f.count both.0) in
    let cell = cells-apart f.cell g.cell both.1 in
    λ i. record { cell = cell i; count = count i }

-- what a sort of cells behind their counts puts first
pub top-is : (facets : List FacetCount) (k : ℕ) (old new : List (Reverse ℕ × Bor FacetCell)) → ranked_counts old ≡ facets
    → IsPermutation old new
    → IsSorted ranked_cmp new
    → ranked_counts (take k new) ≡ top_of k facets
unfolding top_of
top-is facets k old new e moved up =
    let seen : Reverse ℕ × Bor FacetCell → FacetCount = λ p. record { cell = p.1.now; count = p.0.0 } in
    let in_rank : FacetCount → FacetCount → Bool = λ f g. not (is_gt (rank_cmp f g)) in
    let in_order = adjacent-map (λ f g. not (is_lt (rank_cmp g f))) seen new
    ∙ adjacent-sorted (λ p q. is_lt (rank_cmp (seen p) (seen q))) new up in
    let all : ranked_counts new ≡ sorted_items in_rank facets =
    sym (sorted-own rank_cmp ranks_total (map seen new) in_order)
    ∙ sym (sorted-moved rank_cmp ranks_total ranks-apart (map seen old) (map seen new) (IsPermutation-map seen old new moved))
    ∙ ap (sorted_items in_rank) e in
    sym (take-map seen k new) ∙ ap (take k) all

-- the counts of all items
pub all-ranked : (items : List (Reverse ℕ × Bor FacetCell)) (n : ℕ) → length items ≤ n
    → ranked_counts (take n items) ≡ ranked_counts items
all-ranked items n h = ap ranked_counts (take_all n items h)
