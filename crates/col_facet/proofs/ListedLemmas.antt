-- Lists of counts in order of their cells.
use Rattle.std.proofs.Common.{◌≡◌, ℕ, zero, suc, ◌+◌, ◌<◌, ◌≤◌, not, Bool, true, ◌&&◌, List, [], ◌∷◌, drop, length, get_or, refl, sym, ◌∙◌, ap, subst, arith, IsPermutation}
use Rattle.std.specs.List.Sorted.{IsSortedBy}
use Rattle.std.specs.declared.cmp.Ordering.{Ordering}
use Rattle.std.specs.declared.cmp.Ordering.TheVariants.{Less, Equal, Greater}
use Rattle.std.specs.Ordering.{is_eq, is_ge, is_gt, is_lt, nat_cmp, ordering_then, ordering_reverse}
use Rattle.std.proofs.Math.Seq.{drop-cons}
use Rattle.std.proofs.Math.ListN.{drop_of_length-le}
use Rattle.std.proofs.lemmas.Bool.{false≢true, and_parts, and_from}
use Rattle.std.proofs.lemmas.List.Sorted.{IsPermutation-map}
use denote.Ref.{Bor}
use Rattle.col_common.specs.Ascending.{all_adjacent}
use Rattle.col_facet.specs.Cells.{cell_cmp, cells_total}
use Rattle.col_facet.specs.Facets.{totals_of, are_ascending, counted_cells}
use Rattle.col_facet.specs.Listed.{listed_count, listed_counts, are_in_order, begins_apart}
use Rattle.col_facet.specs.declared.facet_cell.FacetCell.{FacetCell}
use Rattle.col_facet.specs.declared.facet_cell.FacetCount.{FacetCount}
use Rattle.col_facet.proofs.OrderLemmas.{cells-apart}
use Rattle.col_facet.proofs.TotalLemmas.{IsFirst, totals-moved}
use Rattle.col_facet.proofs.SortLemmas.{adjacent-sorted, adjacent-map}

-- ---- tests of neighbours

lt-not-ge : (r : Ordering) → is_lt r ≡ not (is_ge r)
lt-not-ge Less = refl
lt-not-ge Equal = refl
lt-not-ge Greater = refl

-- the test of two neighbours is the first one of what is left
pub order-at : (fs : List FacetCount) (i : ℕ) (d e : FacetCount) → i + 1 < length fs
    → are_ascending (drop i fs)
    ≡ (not (is_ge (cell_cmp (get_or fs i d).cell (get_or fs (i + 1) e).cell)) && are_ascending (drop (i + 1) fs))
order-at fs i d e h =
    let f = get_or fs i d in
    let g = get_or fs (i + 1) e in
    let one : suc i ≡ i + 1 = omega arith in
    let next = drop-cons fs (i + 1) e h in
    ap are_ascending (drop-cons fs i d (omega (arith, h)) ∙ ap (λ j. f ∷ drop j fs) one ∙ ap (λ xs. f ∷ xs) next)
    ∙ ap (λ b. b && are_ascending (g ∷ drop (suc (i + 1)) fs)) (lt-not-ge (cell_cmp f.cell g.cell))
    ∙ ap (λ xs. not (is_ge (cell_cmp f.cell g.cell)) && are_ascending xs) (sym next)

-- one count or none ascends
pub one-ascends : (fs : List FacetCount) (i : ℕ) → length fs ≤ i + 1 → are_ascending (drop i fs) ≡ true
one-ascends [] i h = ap are_ascending (drop_of_length-le [] (omega arith))
one-ascends (f ∷ []) zero h = refl
one-ascends (f ∷ g ∷ fs) zero h = absurd (omega arith)
one-ascends (f ∷ fs) (suc i) h = one-ascends fs i (omega (arith, h))

adjacent-weaker : {A : Type 0} (t u : A → A → Bool) → ((x y : A) → t x y ≡ true → u x y ≡ true)
    → (xs : List A) → all_adjacent t xs ≡ true → all_adjacent u xs ≡ true
adjacent-weaker t u h [] e = refl
adjacent-weaker t u h (x ∷ []) e = refl
adjacent-weaker t u h (x ∷ y ∷ ys) e =
    let parts = and_parts (t x y) (all_adjacent t (y ∷ ys)) e in
    and_from (u x y) (all_adjacent u (y ∷ ys)) (h x y parts.0) (adjacent-weaker t u h (y ∷ ys) parts.1)

-- ---- lists in order

less-on : (c d e : FacetCell) → cell_cmp c d ≡ Less → not (is_gt (cell_cmp d e)) ≡ true → cell_cmp c e ≡ Less
less-on c d e h k = go (cell_cmp d e) refl k
  where
    go : (r : Ordering) → cell_cmp d e ≡ r → not (is_gt r) ≡ true → cell_cmp c e ≡ Less
    go Less p q = cells_total.trans c d e h p
    go Equal p q = subst (λ x. cell_cmp c x ≡ Less) (cells-apart d e p) h
    go Greater p q = absurd (false≢true q)

less-than-all : (c : FacetCell) (f : FacetCount) (fs : List FacetCount) → cell_cmp c f.cell ≡ Less
    → are_in_order (f ∷ fs) ≡ true → IsFirst cell_cmp c (counted_cells (f ∷ fs))
less-than-all c f [] h up = (h, tt)
less-than-all c f (g ∷ fs) h up =
    let parts = and_parts (not (is_gt (cell_cmp f.cell g.cell))) (are_in_order (g ∷ fs)) up in
    (h, less-than-all c g fs (less-on c f.cell g.cell h parts.0) parts.1)

less-by-tests : (r : Ordering) → not (is_gt r) ≡ true → not (is_eq r) ≡ true → r ≡ Less
less-by-tests Less p q = refl
less-by-tests Equal p q = absurd (false≢true q)
less-by-tests Greater p q = absurd (false≢true p)

-- a cell in order, of which no count comes next, stands before all that do
pub first-apart : (f : FacetCount) (fs : List FacetCount) → are_in_order (f ∷ fs) ≡ true → begins_apart f.cell fs ≡ true
    → IsFirst cell_cmp f.cell (counted_cells fs)
first-apart f [] up e = tt
first-apart f (g ∷ fs) up e =
    let parts = and_parts (not (is_gt (cell_cmp f.cell g.cell))) (are_in_order (g ∷ fs)) up in
    less-than-all f.cell g fs (less-by-tests (cell_cmp f.cell g.cell) parts.0 e) parts.1

-- what is left of a list in order is in order
pub in_order-drop : (i : ℕ) (fs : List FacetCount) → are_in_order fs ≡ true → are_in_order (drop i fs) ≡ true
in_order-drop zero fs up = up
in_order-drop (suc i) [] up = refl
in_order-drop (suc i) (f ∷ []) up = in_order-drop i [] refl
in_order-drop (suc i) (f ∷ g ∷ fs) up =
    in_order-drop i (g ∷ fs) ((and_parts (not (is_gt (cell_cmp f.cell g.cell))) (are_in_order (g ∷ fs)) up).1)

-- ---- what a sort leaves

-- by cell, then by count
abbrev listed_cmp : Bor FacetCell × ℕ → Bor FacetCell × ℕ → Ordering
listed_cmp p q = ordering_then (cell_cmp p.0.now q.0.now) (nat_cmp p.1 q.1)

not-behind : (p q : Bor FacetCell × ℕ) → not (is_lt (listed_cmp q p)) ≡ true → not (is_gt (cell_cmp p.0.now q.0.now)) ≡ true
not-behind p q e =
    ap (λ r. not (is_gt r)) (cells_total.antisymm p.0.now q.0.now) ∙ go (cell_cmp q.0.now p.0.now) (nat_cmp q.1 p.1) e
  where
    go : (a b : Ordering) → not (is_lt (ordering_then a b)) ≡ true → not (is_gt (ordering_reverse a)) ≡ true
    go Less b e = absurd (false≢true e)
    go Equal b e = refl
    go Greater b e = refl

-- a sort leaves counts in order of their cells
pub in_order-sorted : (listed : List (Bor FacetCell × ℕ)) → IsSortedBy (λ p q. is_lt (listed_cmp p q)) listed
    → are_in_order (listed_counts listed) ≡ true
in_order-sorted listed s =
    adjacent-map (λ f g. not (is_gt (cell_cmp f.cell g.cell))) listed_count listed
    ∙ adjacent-weaker (λ p q. not (is_lt (listed_cmp q p))) (λ p q. not (is_gt (cell_cmp p.0.now q.0.now))) not-behind listed
    (adjacent-sorted (λ p q. is_lt (listed_cmp p q)) listed s)

-- the totals of facets are those of their counts, moved
pub totals-sorted : {new : List (Bor FacetCell × ℕ)} (old lent : List (Bor FacetCell × ℕ)) (facets : List FacetCount)
    → IsPermutation old new → lent ≡ new → listed_counts old ≡ facets → totals_of (listed_counts lent) ≡ totals_of facets
unfolding totals_of
totals-sorted {new = new} old lent facets moved is is_old =
    ap (λ xs. totals_of (listed_counts xs)) is
    ∙ sym (totals-moved cell_cmp cells_total cells-apart (listed_counts old) (listed_counts new)
    (IsPermutation-map listed_count old new moved)) ∙ ap totals_of is_old
