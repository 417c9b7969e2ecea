-- Totals of two ascending lists, from the front.
use Rattle.std.proofs.Common.{◌≡◌, ℕ, zero, suc, ◌+◌, ◌-◌, ◌^◌, ◌<◌, ◌≤◌, ◌⊎◌, inl, inr, true, false, ◌&&◌, List, [], ◌∷◌, ◌++◌, map, take, drop, length, get_or, refl, sym, ◌∙◌, ap, ap₂, subst, arith, append_assoc, le-ltb}
use Rattle.std.specs.List.Sorted.{IsStrictlySortedBy}
use Rattle.std.specs.declared.cmp.Ordering.TheVariants.{Less, Equal, Greater}
use Rattle.std.specs.Ordering.{is_lt, ordering_reverse}
use Rattle.std.proofs.lemmas.Bool.{and_parts, and_from}
use Rattle.std.proofs.lemmas.List.{append-nil, length-drop}
use Rattle.std.proofs.Math.Seq.{take-length}
use Rattle.std.proofs.Math.ListN.{drop_of_length-le}
use Rattle.std.proofs.lemmas.List.Sorted.{IsPermutation-middle, IsPermutation-cons}
use Rattle.col_model.specs.Sorted.{distinct_items}
use Rattle.col_model.proofs.OrderingLaws.{less_where}
use Rattle.col_model.proofs.StatsLaws.{all_by}
use Rattle.col_facet.specs.Cells.{cell_cmp, cells_total}
use Rattle.col_facet.specs.Facets.{totals_of, are_ascending, are_counted, counted_cells}
use Rattle.col_facet.specs.declared.facet_cell.FacetCell.{FacetCell}
use Rattle.col_facet.specs.declared.facet_cell.FacetCount.{FacetCount}
use Rattle.col_facet.proofs.OrderLemmas.{cells-apart}
use Rattle.col_facet.proofs.TotalLemmas.{IsFirst, totals-first, totals-moved, totals-joined, sorted-distinct}

-- what stands behind the first of ascending counts ascends, and the first stands before it
pub ascending-parts : (f : FacetCount) (fs : List FacetCount) → are_ascending (f ∷ fs) ≡ true
    → IsFirst cell_cmp f.cell (counted_cells fs) × (are_ascending fs ≡ true)
ascending-parts f [] e = (tt, refl)
ascending-parts f (g ∷ fs) e =
    let both = and_parts (is_lt (cell_cmp f.cell g.cell)) (are_ascending (g ∷ fs)) e in
    let less = less_where (cell_cmp f.cell g.cell) both.0 in
    let later = ascending-parts g fs both.1 in
    ((less, all_by (λ d h. cells_total.trans f.cell g.cell d less h) (counted_cells fs) later.0), both.1)

ascending-cells : (cs : List FacetCell) (count : FacetCell → ℕ) → IsStrictlySortedBy cell_cmp cs
    → are_ascending (map (λ (c : FacetCell). let r : FacetCount = record { cell = c; count = count c } in r) cs) ≡ true
unfolding IsStrictlySortedBy
ascending-cells [] count s = refl
ascending-cells (c ∷ []) count s = refl
ascending-cells (c ∷ d ∷ cs) count s =
    and_from (is_lt (cell_cmp c d)) _ (ap is_lt s.0.0) (ascending-cells (d ∷ cs) count s.1)

-- what counts each of distinct cells ascends
pub ascending-distinct : (cs : List FacetCell) (count : FacetCell → ℕ)
    → are_ascending (map (λ (c : FacetCell). let r : FacetCount = record { cell = c; count = count c } in r)
    (distinct_items cell_cmp cs)) ≡ true
ascending-distinct cs count = ascending-cells (distinct_items cell_cmp cs) count (sorted-distinct cell_cmp cells_total cs)

-- totals ascend
pub ascending-totals : (fs : List FacetCount) → are_ascending (totals_of fs) ≡ true
unfolding totals_of
ascending-totals fs = ascending-distinct (counted_cells fs) _

-- ascending counts are their own totals
pub totals-own : (fs : List FacetCount) → are_ascending fs ≡ true → totals_of fs ≡ fs
unfolding totals_of distinct_items
totals-own [] e = refl
totals-own (f ∷ fs) e =
    let parts = ascending-parts f fs e in
    totals-first cell_cmp cells_total f fs parts.0 ∙ ap (λ r. f ∷ r) (totals-own fs parts.1)

first-two : (c : FacetCell) (fs gs : List FacetCount) → IsFirst cell_cmp c (counted_cells fs) → IsFirst cell_cmp c (counted_cells gs)
    → IsFirst cell_cmp c (counted_cells (fs ++ gs))
first-two c [] gs h k = k
first-two c (f ∷ fs) gs h k = (h.0, first-two c fs gs h.1 k)

module _ (f g : FacetCount) (fs gs : List FacetCount) (up : are_ascending (f ∷ fs) ≡ true) (up2 : are_ascending (g ∷ gs) ≡ true) where
  -- the first of the left list, where its cell is less
  pub totals-less : cell_cmp f.cell g.cell ≡ Less → totals_of ((f ∷ fs) ++ g ∷ gs) ≡ f ∷ totals_of (fs ++ g ∷ gs)
  unfolding totals_of
  totals-less e =
      let left = ascending-parts f fs up in
      let right = ascending-parts g gs up2 in
      let behind = all_by (λ d h. cells_total.trans f.cell g.cell d e h) (counted_cells gs) right.0 in
      totals-first cell_cmp cells_total f (fs ++ g ∷ gs) (first-two f.cell fs (g ∷ gs) left.0 (e, behind))

  -- the first of the right list, where its cell is less
  pub totals-greater : cell_cmp g.cell f.cell ≡ Less → totals_of ((f ∷ fs) ++ g ∷ gs) ≡ g ∷ totals_of ((f ∷ fs) ++ gs)
  unfolding totals_of
  totals-greater e =
      let left = ascending-parts f fs up in
      let right = ascending-parts g gs up2 in
      let behind = all_by (λ d h. cells_total.trans g.cell f.cell d e h) (counted_cells fs) left.0 in
      totals-moved cell_cmp cells_total cells-apart ((f ∷ fs) ++ g ∷ gs) (g ∷ ((f ∷ fs) ++ gs)) (IsPermutation-middle (f ∷ fs) g gs)
      ∙ totals-first cell_cmp cells_total g ((f ∷ fs) ++ gs) (first-two g.cell (f ∷ fs) gs (e, behind) right.0)

  -- the first of both, where they count one cell
  pub totals-equal : cell_cmp f.cell g.cell ≡ Equal
      → totals_of ((f ∷ fs) ++ g ∷ gs) ≡ record { cell = f.cell; count = f.count + g.count } ∷ totals_of (fs ++ gs)
  unfolding totals_of
  totals-equal e =
      let left = ascending-parts f fs up in
      let right = ascending-parts g gs up2 in
      let behind = all_by (λ d h. cells_total.congr f.cell g.cell d e ∙ h) (counted_cells gs) right.0 in
      totals-moved cell_cmp cells_total cells-apart (f ∷ (fs ++ g ∷ gs)) (f ∷ g ∷ (fs ++ gs))
      (IsPermutation-cons f _ _ (IsPermutation-middle fs g gs))
      ∙ totals-joined cell_cmp cells_total cells-apart f g (fs ++ gs) e
      ∙ totals-first cell_cmp cells_total (record { cell = f.cell; count = f.count + g.count }) (fs ++ gs)
      (first-two f.cell fs gs left.0 behind)

-- a list that begins with an item at its front is it and those behind it
pub front-is : {A : Type 0} (xs : List A) (x : A) → 0 < length xs → x ≡ get_or xs 0 x → xs ≡ x ∷ drop 1 xs
front-is [] x h e = absurd (omega arith)
front-is (y ∷ ys) x h e = ap (λ z. z ∷ ys) (sym e)

-- an item that goes from the front of what is left to the end of what is there
pub moved-on : {A : Type 0} (old new rest all : List A) (x : A) → new ≡ old ++ x ∷ [] → all ≡ x ∷ rest
    → new ++ rest ≡ old ++ all
moved-on old new rest all x e r =
    ap (λ xs. xs ++ rest) e ∙ append_assoc old (x ∷ []) rest ∙ ap (λ xs. old ++ xs) (sym r)

-- two ascending lists with their first items
pub record AreFronts (left right : List FacetCount) (f g : FacetCount) : Type 0 where
  pub left_is : left ≡ f ∷ drop 1 left
  pub right_is : right ≡ g ∷ drop 1 right
  pub left_up : are_ascending left ≡ true
  pub right_up : are_ascending right ≡ true

module _ {left right : List FacetCount} {f g : FacetCount} (a : AreFronts left right f g) where
  left-up : are_ascending (f ∷ drop 1 left) ≡ true
  left-up = subst (λ xs. are_ascending xs ≡ true) a.left_is a.left_up

  right-up : are_ascending (g ∷ drop 1 right) ≡ true
  right-up = subst (λ xs. are_ascending xs ≡ true) a.right_is a.right_up

  both-are : totals_of (left ++ right) ≡ totals_of ((f ∷ drop 1 left) ++ (g ∷ drop 1 right))
  both-are = ap₂ (λ xs ys. totals_of (xs ++ ys)) a.left_is a.right_is

  -- the totals, where the left list has the least cell
  pub next-less : cell_cmp f.cell g.cell ≡ Less → totals_of (left ++ right) ≡ f ∷ totals_of (drop 1 left ++ right)
  next-less e =
      both-are ∙ totals-less f g (drop 1 left) (drop 1 right) left-up right-up e
      ∙ ap (λ ys. f ∷ totals_of (drop 1 left ++ ys)) (sym a.right_is)

  -- the totals, where the right list has it
  pub next-greater : cell_cmp f.cell g.cell ≡ Greater → totals_of (left ++ right) ≡ g ∷ totals_of (left ++ drop 1 right)
  next-greater e =
      both-are
      ∙ totals-greater f g (drop 1 left) (drop 1 right) left-up right-up (cells_total.antisymm g.cell f.cell ∙ ap ordering_reverse e)
      ∙ ap (λ xs. g ∷ totals_of (xs ++ drop 1 right)) (sym a.left_is)

  -- the totals, where both have it
  pub next-equal : cell_cmp f.cell g.cell ≡ Equal
      → totals_of (left ++ right) ≡ record { cell = f.cell; count = f.count + g.count } ∷ totals_of (drop 1 left ++ drop 1 right)
  next-equal e = both-are ∙ totals-equal f g (drop 1 left) (drop 1 right) left-up right-up e

  -- more than 64 bits count of a cell of both
  pub next-large : cell_cmp f.cell g.cell ≡ Equal → 2 ^ 64 ≤ f.count + g.count → are_counted (totals_of (left ++ right)) ≡ false
  next-large e h = ap are_counted (next-equal e)
      ∙ ap (λ b. b && are_counted (totals_of (drop 1 left ++ drop 1 right))) (le-ltb (f.count + g.count) (2 ^ 64) h)

  -- the totals with a number that is the sum
  pub next-sum : cell_cmp f.cell g.cell ≡ Equal → (n : ℕ) → n ≡ f.count + g.count
      → totals_of (left ++ right) ≡ record { cell = f.cell; count = n } ∷ totals_of (drop 1 left ++ drop 1 right)
  next-sum e n is = next-equal e ∙ ap (λ m. record { cell = f.cell; count = m } ∷ totals_of (drop 1 left ++ drop 1 right)) (sym is)

-- the first items of two ascending lists
pub fronts_of : {left right : List FacetCount} {f g : FacetCount} → are_ascending left ≡ true → are_ascending right ≡ true
    → 0 < length left → 0 < length right → f ≡ get_or left 0 f → g ≡ get_or right 0 g → AreFronts left right f g
fronts_of {left = left} {right = right} {f = f} {g = g} up up2 some some2 is is2 = record {
  left_is = front-is left f some is;
  right_is = front-is right g some2 is2;
  left_up = up;
  right_up = up2;
}

-- what stands from a place on is all that is behind it
pub rest-is : {A : Type 0} (xs : List A) (i : ℕ) → take (length xs - i) (drop i xs) ≡ drop i xs
rest-is xs i = ap (λ n. take n (drop i xs)) (sym (length-drop i xs)) ∙ take-length (drop i xs)

-- what stands from a place on ascends
pub ascending-drop : (i : ℕ) (fs : List FacetCount) → are_ascending fs ≡ true → are_ascending (drop i fs) ≡ true
ascending-drop zero fs e = e
ascending-drop (suc i) [] e = refl
ascending-drop (suc i) (f ∷ fs) e = ascending-drop i fs ((ascending-parts f fs e).1)

-- what stands from a place on ascends, as the code cuts it
pub ascending-rest : (i : ℕ) (fs : List FacetCount) → are_ascending fs ≡ true → are_ascending (take (length fs - i) (drop i fs)) ≡ true
ascending-rest i fs e = rw rest-is (ascending-drop i fs e)

-- where one list has ended, the totals of what is left are what is left
pub totals-left : (xs ys : List FacetCount) → are_ascending xs ≡ true → are_ascending ys ≡ true
    → (xs ≡ []) ⊎ (ys ≡ []) → totals_of (xs ++ ys) ≡ xs ++ ys
totals-left xs ys up up2 (inl e) = totals-own (xs ++ ys) (subst (λ zs. are_ascending (zs ++ ys) ≡ true) (sym e) up2)
totals-left xs ys up up2 (inr e) =
    totals-own (xs ++ ys) (subst (λ zs. are_ascending (xs ++ zs) ≡ true) (sym e)
    (subst (λ zs. are_ascending zs ≡ true) (sym (append-nil xs)) up))

-- the sums so far, with what is left of both lists, are the totals where one list has ended
pub all-merged : (left right sums some all : List FacetCount) (i j : ℕ) → are_ascending left ≡ true → are_ascending right ≡ true
    → sums ++ totals_of (drop i left ++ drop j right) ≡ totals_of (left ++ right)
    → (length left ≤ i) ⊎ (length right ≤ j) → some ≡ sums ++ take (length left - i) (drop i left)
    → all ≡ some ++ take (length right - j) (drop j right) → all ≡ totals_of (left ++ right)
all-merged left right sums some all i j up up2 so_far over e e2 =
    let ended : (drop i left ≡ []) ⊎
    (drop j right ≡ []) = elim over [ inl h ↦ inl (drop_of_length-le left h) | inr h ↦ inr (drop_of_length-le right h) ] in
    e2 ∙ ap₂ (λ xs ys. xs ++ ys) (e ∙ ap (λ xs. sums ++ xs) (rest-is left i)) (rest-is right j)
    ∙ append_assoc sums (drop i left) (drop j right)
    ∙ ap (λ xs. sums ++ xs) (sym (totals-left (drop i left) (drop j right) (ascending-drop i left up) (ascending-drop j right up2) ended))
    ∙ so_far
