-- Facets of values in order, run by run.
use Rattle.std.proofs.Common.{◌≡◌, ℕ, zero, suc, ◌+◌, ◌-◌, ◌<◌, ◌≤◌, Bool, true, false, not, cond, List, [], ◌∷◌, ◌++◌, map, take, drop, length, get_or, refl, sym, ◌∙◌, ap, subst, arith, IsPermutation}
use Rattle.std.specs.List.{AllByRecursion, prefix_len}
use Rattle.std.specs.List.Sorted.{IsSorted}
use Rattle.std.specs.declared.cmp.Ordering.{Ordering}
use Rattle.std.specs.declared.cmp.Ordering.TheVariants.{Less, Equal, Greater}
use Rattle.std.specs.Ordering.{is_lt, is_eq, eq_by_cmp, ordering_reverse}
use Rattle.std.specs.Cmp.{IsTotalOrder}
use Rattle.std.proofs.lemmas.Bool.{true≢false, false≢true, and_parts}
use Rattle.std.proofs.lemmas.Cmp.{tied_itself, tied_back}
use Rattle.std.proofs.lemmas.List.Sums.{sum_by-cons}
use Rattle.std.proofs.lemmas.List.Sorted.{IsPermutation-map}
use Rattle.col_model.specs.Sorted.{distinct_items}
use Rattle.col_model.proofs.OrderingLaws.{equal_of}
use Rattle.col_common.specs.Ascending.{all_adjacent}
use Rattle.col_model.proofs.StatsLaws.{all_by}
use Rattle.col_facet.specs.Cells.{cell_cmp, KeepsOrder, cells_total}
use Rattle.col_facet.specs.Facets.{totals_of, facets_of, counted_cells, summed_count, copies, same_cell}
use Rattle.col_facet.specs.declared.facet_cell.FacetCell.{FacetCell}
use Rattle.col_facet.specs.declared.facet_cell.FacetCount.{FacetCount}
use Rattle.col_facet.proofs.OrderLemmas.{cells-apart}
use Rattle.col_facet.proofs.TotalLemmas.{IsFirst, totals-first, totals-moved, totals-joined}
use Rattle.std.proofs.Math.Seq.{drop-cons}
use Rattle.std.proofs.Math.ListN.{drop_of_length-le}
use Rattle.std.proofs.lemmas.List.{drop-drop, append-nil, length-drop}
use Rattle.col_facet.proofs.MergeLemmas.{rest-is, moved-on}
use Rattle.col_facet.proofs.SortLemmas.{untrue, adjacent-sorted}

-- a cell that stands once
abbrev pub once : FacetCell → FacetCount
once c = record { cell = c; count = 1 }

cells-once : (cs : List FacetCell) → counted_cells (map once cs) ≡ cs
cells-once [] = refl
cells-once (c ∷ cs) = ap (λ r. c ∷ r) (cells-once cs)

count-once : (cs : List FacetCell) (c : FacetCell) → copies cs c ≡ summed_count (map once cs) c
count-once [] c = refl
count-once (d ∷ cs) c =
    sum_by-cons (λ (e : FacetCell). cond (same_cell c e) 1 0) d cs
    ∙ ap (λ n. cond (same_cell c d) 1 0 + n) (count-once cs c)
    ∙ sym (sum_by-cons (λ (f : FacetCount). cond (same_cell c f.cell) f.count 0) (once d) (map once cs))

-- how often cells stand is the total of what counts each place of theirs once
pub facets-totals : (cs : List FacetCell) → facets_of cs ≡ totals_of (map once cs)
unfolding facets_of totals_of
facets-totals cs =
    λ i. map (λ (c : FacetCell). let r : FacetCount = record { cell = c; count = count-once cs c i } in r)
    (distinct_items cell_cmp (sym (cells-once cs) i))

-- the order of cells doesn't matter
pub facets-moved : (cs ds : List FacetCell) → IsPermutation cs ds → facets_of cs ≡ facets_of ds
facets-moved cs ds p =
    facets-totals cs ∙ moved (map once cs) (map once ds) (IsPermutation-map once cs ds p) ∙ sym (facets-totals ds)
  where
    moved : (fs gs : List FacetCount) → IsPermutation fs gs → totals_of fs ≡ totals_of gs
    moved fs gs q = unfold totals_of in totals-moved cell_cmp cells_total cells-apart fs gs q

module _ {T : Type 0} (cmp : T → T → Ordering) (o : IsTotalOrder cmp) where
  -- no item is below one before it
  abbrev pub IsUp : List T → Type 0
  IsUp [] = Unit {0}
  IsUp (x ∷ xs) = AllByRecursion (λ y. is_lt (cmp y x) ≡ false) xs × IsUp xs

  -- what stands from a place on is in order
  pub up-drop : (i : ℕ) (xs : List T) → IsUp xs → IsUp (drop i xs)
  up-drop zero xs up = up
  up-drop (suc i) [] up = tt
  up-drop (suc i) (x ∷ xs) up = up-drop i xs up.1

  -- an item before one that is not below another
  pub below-both : (x y z : T) → is_lt (cmp y x) ≡ false → is_lt (cmp z y) ≡ false → is_lt (cmp z x) ≡ false
  below-both x y z h k = go (cmp z x) refl
    where
      -- z below x, which is at most y, is below y
      less : cmp z x ≡ Less → (r : Ordering) → cmp x y ≡ r → is_lt (cmp y x) ≡ false → cmp z y ≡ Less
      less e Less f h = o.trans z x y e f
      less e Equal f h = o.antisymm z y ∙ ap ordering_reverse (sym (o.congr x y z f)) ∙ sym (o.antisymm z x) ∙ e
      less e Greater f h = absurd (false≢true (sym h ∙ ap is_lt (o.antisymm y x ∙ ap ordering_reverse f)))

      go : (r : Ordering) → cmp z x ≡ r → is_lt r ≡ false
      go Less e = absurd (false≢true (sym k ∙ ap is_lt (less e (cmp x y) refl h)))
      go Equal e = refl
      go Greater e = refl

  -- neighbours in order are in order all
  up-adjacent : (xs : List T) → all_adjacent (λ x y. not (is_lt (cmp y x))) xs ≡ true → IsUp xs
  up-adjacent [] e = tt
  up-adjacent (x ∷ []) e = (tt, tt)
  up-adjacent (x ∷ y ∷ ys) e =
      let parts = and_parts (not (is_lt (cmp y x))) (all_adjacent (λ x y. not (is_lt (cmp y x))) (y ∷ ys)) e in
      let first = untrue parts.0 in
      let later = up-adjacent (y ∷ ys) parts.1 in
      ((first, all_by (λ z k. below-both x y z first k) ys later.0), later)

  -- a sort leaves items in order
  pub up-sorted : (xs : List T) → IsSorted cmp xs → IsUp xs
  up-sorted xs h = up-adjacent xs (adjacent-sorted (λ x y. is_lt (cmp x y)) xs h)

  module _ (cell : T → FacetCell) (keeps : KeepsOrder cmp cell) (eq : T → T → Bool)
      (ties : (x y : T) → eq x y ≡ eq_by_cmp cmp x y) where
    -- an item that is neither below another nor equal to it is above it
    above : (x y : T) → is_lt (cmp y x) ≡ false → eq y x ≡ false → cmp x y ≡ Less
    above x y h e = go (cmp y x) refl
      where
        go : (r : Ordering) → cmp y x ≡ r → cmp x y ≡ Less
        go Less f = absurd (true≢false (sym (ap is_lt f) ∙ h))
        go Equal f = absurd (true≢false (sym (ties y x ∙ ap is_eq f) ∙ e))
        go Greater f = o.antisymm x y ∙ ap ordering_reverse f

    firsts : (x y : T) (ys : List T) → cmp x y ≡ Less → AllByRecursion (λ z. is_lt (cmp z y) ≡ false) ys
        → IsFirst cell_cmp (cell x) (counted_cells (map once (map cell ys)))
    firsts x y [] less all = tt
    firsts x y (z ∷ zs) less all = (keeps x z ∙ further (cmp y z) refl, firsts x y zs less all.1)
      where
        further : (r : Ordering) → cmp y z ≡ r → cmp x z ≡ Less
        further Less f = o.trans x y z less f
        further Equal f = o.antisymm x z ∙ ap ordering_reverse (sym (o.congr y z x f)) ∙ sym (o.antisymm x y) ∙ less
        further Greater f = absurd (true≢false (sym (ap is_lt (o.antisymm z y ∙ ap ordering_reverse f)) ∙ all.0))

    -- the run of an item that stands so often already, and what is behind it
    run-totals : (x : T) (k : ℕ) (xs : List T) → AllByRecursion (λ y. is_lt (cmp y x) ≡ false) xs → IsUp xs
        → totals_of (record { cell = cell x; count = k } ∷ map once (map cell xs))
        ≡ record { cell = cell x; count = k + prefix_len (λ v. eq v x) xs }
        ∷ totals_of (map once (map cell (drop (prefix_len (λ v. eq v x) xs) xs)))
    unfolding totals_of
    run-totals x k [] all up =
        let same : k ≡ k + 0 = omega arith in
        totals-first cell_cmp cells_total (record { cell = cell x; count = k }) [] tt
        ∙ ap (λ n. record { cell = cell x; count = n } ∷ totals_of []) same
    run-totals x k (y ∷ ys) all up = go (eq y x) refl (run-totals x (k + 1) ys all.1 up.1)
      where
        p : ℕ
        p = prefix_len (λ v. eq v x) ys

        behind : List FacetCount
        behind = map once (map cell ys)

        go : (b : Bool) → eq y x ≡ b
            → totals_of (record { cell = cell x; count = k + 1 } ∷ map once (map cell ys))
            ≡ record { cell = cell x; count = k + 1 + prefix_len (λ v. eq v x) ys }
            ∷ totals_of (map once (map cell (drop (prefix_len (λ v. eq v x) ys) ys)))
            → totals_of (record { cell = cell x; count = k } ∷ once (cell y) ∷ map once (map cell ys))
            ≡ record { cell = cell x; count = k + cond b (1 + prefix_len (λ v. eq v x) ys) 0 }
            ∷ totals_of (map once (map cell (drop (cond b (1 + prefix_len (λ v. eq v x) ys) 0) (y ∷ ys))))
        go true e more =
            let tied = tied_back o y x (equal_of (cmp y x) (sym (ties y x) ∙ e)) in
            let size : k + 1 + prefix_len (λ v. eq v x) ys ≡ k + (1 + prefix_len (λ v. eq v x) ys) = omega arith in
            let far : suc (prefix_len (λ v. eq v x) ys) ≡ 1 + prefix_len (λ v. eq v x) ys = omega arith in
            totals-joined cell_cmp cells_total cells-apart (record { cell = cell x; count = k }) (once (cell y))
            (map once (map cell ys)) (keeps x y ∙ tied)
            ∙ more
            ∙ (λ i. record { cell = cell x; count = size i } ∷ totals_of (map once (map cell (drop (far i) (y ∷ ys)))))
        go false e more =
            let less = above x y all.0 e in
            let same : k ≡ k + 0 = omega arith in
            totals-first cell_cmp cells_total (record { cell = cell x; count = k }) (once (cell y) ∷ map once (map cell ys))
            (keeps x y ∙ less, firsts x y ys less up.0)
            ∙ (λ i. record { cell = cell x; count = same i } ∷ totals_of (once (cell y) ∷ map once (map cell ys)))

    -- the facets of values in order: the first one with its run, and those behind it
    pub facets-run : (x : T) (xs : List T) → IsUp (x ∷ xs)
        → facets_of (map cell (x ∷ xs))
        ≡ record { cell = cell x; count = prefix_len (λ v. eq v x) (x ∷ xs) }
        ∷ facets_of (map cell (drop (prefix_len (λ v. eq v x) (x ∷ xs)) (x ∷ xs)))
    facets-run x xs up =
        let p = prefix_len (λ v. eq v x) xs in
        let own : eq x x ≡ true = ties x x ∙ ap is_eq (tied_itself o x) in
        let size : 1 + p ≡ prefix_len (λ v. eq v x) (x ∷ xs) = sym (ap (λ b. cond b (1 + p) 0) own) in
        let far : suc p ≡ 1 + p = omega arith in
        facets-totals (map cell (x ∷ xs)) ∙ run-totals x 1 xs up.0 up.1
        ∙ ap (λ fs. record { cell = cell x; count = 1 + p } ∷ fs) (sym (facets-totals (map cell (drop p xs))))
        ∙ ap (λ n. record { cell = cell x; count = 1 + p } ∷ facets_of (map cell (drop n (x ∷ xs)))) far
        ∙ ap (λ n. record { cell = cell x; count = n } ∷ facets_of (map cell (drop n (x ∷ xs)))) size

    run-of : (x : T) (run : ℕ) (rest : List T) → IsUp (x ∷ rest) → run ≡ prefix_len (λ v. eq v x) (x ∷ rest)
        → facets_of (map cell (x ∷ rest))
        ≡ record { cell = cell x; count = run } ∷ facets_of (map cell (drop run (x ∷ rest)))
    run-of x run rest up size =
        facets-run x rest up
        ∙ ap (λ n. record { cell = cell x; count = n } ∷ facets_of (map cell (drop n (x ∷ rest)))) (sym size)

    -- a step of a walk over values in order
    pub run-step : (xs : List T) (found new : List FacetCount) (at run : ℕ) (x : T) (c : FacetCell) → IsUp xs → at < length xs
        → x ≡ get_or xs at x → run ≡ prefix_len (λ v. eq v x) (take (length xs - at) (drop at xs))
        → found ++ facets_of (map cell (drop at xs)) ≡ facets_of (map cell xs)
        → new ≡ found ++ record { cell = c; count = run } ∷ [] → c ≡ cell x
        → new ++ facets_of (map cell (drop (at + run) xs)) ≡ facets_of (map cell xs)
    run-step xs found new at run x c up inside is size so_far more same =
        let front : drop at xs ≡ x ∷ drop (suc at) xs = drop-cons xs at x inside ∙ ap (λ y. y ∷ drop (suc at) xs) (sym is) in
        let size : run ≡ prefix_len (λ v. eq v x) (drop at xs) = size ∙ ap (prefix_len (λ v. eq v x)) (rest-is xs at) in
        let found_run : facets_of (map cell (drop at xs))
        ≡ record { cell = cell x; count = run } ∷ facets_of (map cell (drop run (drop at xs)))
        = subst (λ zs. IsUp zs → run ≡ prefix_len (λ v. eq v x) zs → facets_of (map cell zs)
        ≡ record { cell = cell x; count = run } ∷ facets_of (map cell (drop run zs))) (sym front)
        (run-of x run (drop (suc at) xs)) (up-drop at xs up) size in
        let behind : facets_of (map cell (drop (at + run) xs)) ≡ facets_of (map cell (drop run (drop at xs))) =
        ap (λ zs. facets_of (map cell zs)) (sym (drop-drop run at xs)) in
        moved-on found new (facets_of (map cell (drop (at + run) xs))) (facets_of (map cell (drop at xs)))
        (record { cell = cell x; count = run }) (more ∙ ap (λ d. found ++ record { cell = d; count = run } ∷ []) same)
        (found_run ∙ ap (λ fs. record { cell = cell x; count = run } ∷ fs) (sym behind))
        ∙ so_far

facets-none : facets_of [] ≡ []
unfolding facets_of distinct_items
facets-none = refl

-- the facets of no values
pub no-facets : {T : Type 0} (cell : T → FacetCell) (xs : List T) (n : ℕ) → n ≡ length xs → n ≡ 0 → facets_of (map cell xs) ≡ []
no-facets cell [] n e f = facets-none
no-facets cell (x ∷ xs) n e f = absurd (omega (arith, e, f))

-- the end of such a walk
pub run-end : {T : Type 0} (cell : T → FacetCell) (xs : List T) (found all : List FacetCount) (at : ℕ)
    → found ++ facets_of (map cell (drop at xs)) ≡ all → length xs ≤ at → found ≡ all
run-end cell xs found all at e h =
    sym (append-nil found)
    ∙ ap (λ fs. found ++ fs) (sym (ap (λ zs. facets_of (map cell zs)) (drop_of_length-le xs h) ∙ facets-none)) ∙ e

-- how many items stand from a place on, as the code cuts them
pub rest-length : {A : Type 0} (xs : List A) (i : ℕ) → length (take (length xs - i) (drop i xs)) ≡ length xs - i
rest-length xs i = ap length (rest-is xs i) ∙ length-drop i xs
