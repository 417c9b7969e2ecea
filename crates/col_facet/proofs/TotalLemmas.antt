-- Counts of cells, summed up by cell.
use Rattle.std.proofs.Common.{◌≡◌, ℕ, ◌+◌, Bool, true, false, cond, ◌||◌, List, [], ◌∷◌, map, refl, sym, ◌∙◌, ap, arith, IsPermutation}
use Rattle.std.specs.List.{sum_by, AllByRecursion}
use Rattle.std.specs.List.Sorted.{IsStrictlySortedBy}
use Rattle.std.specs.declared.cmp.Ordering.{Ordering}
use Rattle.std.specs.declared.cmp.Ordering.TheVariants.{Less, Equal, Greater}
use Rattle.std.specs.Ordering.{eq_by_cmp, is_eq, match_ordering, ordering_reverse}
use Rattle.std.specs.Cmp.{IsTotalOrder}
use Rattle.std.specs.FinMap.{IsAntisymmetric}
use Rattle.std.proofs.lemmas.Cmp.{tied_itself}
use Rattle.std.proofs.lemmas.List.Sums.{sum_by-cons}
use Rattle.std.proofs.lemmas.List.Sorted.{list_any-IsPermutation, sum_by-IsPermutation, IsPermutation-map}
use Rattle.col_model.specs.Sorted.{with_item, distinct_items}
use Rattle.col_model.proofs.DistinctLaws.{has, same_distinct, sorted-with_item}
use Rattle.col_facet.specs.declared.facet_cell.FacetCell.{FacetCell}
use Rattle.col_facet.specs.declared.facet_cell.FacetCount.{FacetCount}

-- the cells of counts
abbrev pub cells : List FacetCount → List FacetCell
cells fs = map (λ f. f.cell) fs

module _ (cmp : FacetCell → FacetCell → Ordering) where
  -- the counts of a cell
  abbrev pub counts : List FacetCount → FacetCell → ℕ
  counts fs c = sum_by (λ f. cond (eq_by_cmp cmp c f.cell) f.count 0) fs

  -- each cell once, ascending, with its counts summed
  abbrev pub totals : List FacetCount → List FacetCount
  totals fs = map (λ c. record { cell = c; count = counts fs c }) (distinct_items cmp (cells fs))

  -- the cell stands before all of these
  abbrev pub IsFirst : FacetCell → List FacetCell → Type 0
  IsFirst c ds = AllByRecursion (λ d. cmp c d ≡ Less) ds

  all-with_item : (P : FacetCell → Type 0) (x : FacetCell) (zs : List FacetCell) → P x → AllByRecursion P zs
      → AllByRecursion P (with_item cmp x zs)
  all-with_item P x [] h all = (h, tt)
  all-with_item P x (z ∷ zs) h all = go (cmp x z) (all-with_item P x zs h all.1)
    where
      go : (r : Ordering) → AllByRecursion P (with_item cmp x zs)
          → AllByRecursion P (match_ordering r (x ∷ z ∷ zs) (z ∷ zs) (z ∷ with_item cmp x zs))
      go Equal rest = all
      go Less rest = (h, all)
      go Greater rest = (all.0, rest)

  -- what all items keep, the distinct ones keep
  pub all-distinct : (P : FacetCell → Type 0) (xs : List FacetCell) → AllByRecursion P xs
      → AllByRecursion P (distinct_items cmp xs)
  unfolding distinct_items
  all-distinct P [] all = tt
  all-distinct P (x ∷ xs) all = all-with_item P x (distinct_items cmp xs) all.0 (all-distinct P xs all.1)

  with-first : (c : FacetCell) (ds : List FacetCell) → IsFirst c ds → with_item cmp c ds ≡ c ∷ ds
  with-first c [] h = refl
  with-first c (d ∷ ds) h = rw h.0 refl

  -- a cell before all others comes first
  distinct-first : (c : FacetCell) (ds : List FacetCell) → IsFirst c ds
      → distinct_items cmp (c ∷ ds) ≡ c ∷ distinct_items cmp ds
  unfolding distinct_items
  distinct-first c ds h = with-first c (distinct_items cmp ds) (all-distinct (λ d. cmp c d ≡ Less) ds h)

  -- the counts of a cell, from the front
  pub counts-cons : (f : FacetCount) (fs : List FacetCount) (c : FacetCell)
      → counts (f ∷ fs) c ≡ cond (eq_by_cmp cmp c f.cell) f.count 0 + counts fs c
  counts-cons f fs c = sum_by-cons (λ (g : FacetCount). cond (eq_by_cmp cmp c g.cell) g.count 0) f fs

  module _ (o : IsTotalOrder cmp) where
    -- distinct cells ascend
    pub sorted-distinct : (cs : List FacetCell) → IsStrictlySortedBy cmp (distinct_items cmp cs)
    unfolding distinct_items IsStrictlySortedBy
    sorted-distinct [] = tt
    sorted-distinct (c ∷ cs) = sorted-with_item cmp o c (distinct_items cmp cs) (sorted-distinct cs)

    apart-back : (c d : FacetCell) → cmp c d ≡ Less → eq_by_cmp cmp d c ≡ false
    apart-back c d e = ap is_eq (o.antisymm d c ∙ ap ordering_reverse e)

    counts-behind : (f : FacetCount) (fs : List FacetCount) (d : FacetCell) → cmp f.cell d ≡ Less
        → counts (f ∷ fs) d ≡ counts fs d
    counts-behind f fs d e =
        let apart = apart-back f.cell d e in
        counts-cons f fs d ∙ ap (λ b. cond b f.count 0 + counts fs d) apart ∙ omega arith

    -- a cell before all of these has no count
    pub counts-none : (fs : List FacetCount) (c : FacetCell) → IsFirst c (cells fs) → counts fs c ≡ 0
    counts-none [] c h = refl
    counts-none (f ∷ fs) c h =
        let later = counts-none fs c h.1 in
        let apart : eq_by_cmp cmp c f.cell ≡ false = ap is_eq h.0 in
        counts-cons f fs c ∙ ap (λ b. cond b f.count 0 + counts fs c) apart ∙ omega arith

    counts-own : (f : FacetCount) (fs : List FacetCount) → IsFirst f.cell (cells fs)
        → counts (f ∷ fs) f.cell ≡ f.count
    counts-own f fs h =
        let tied : eq_by_cmp cmp f.cell f.cell ≡ true = ap is_eq (tied_itself o f.cell) in
        let none = counts-none fs f.cell h in
        counts-cons f fs f.cell ∙ ap (λ b. cond b f.count 0 + counts fs f.cell) tied ∙ omega arith

    same-behind : (f : FacetCount) (fs : List FacetCount) (ds : List FacetCell) → IsFirst f.cell ds
        → map (λ (c : FacetCell). let r : FacetCount = record { cell = c; count = counts (f ∷ fs) c } in r) ds
        ≡ map (λ (c : FacetCell). let r : FacetCount = record { cell = c; count = counts fs c } in r) ds
    same-behind f fs [] h = refl
    same-behind f fs (d ∷ ds) h =
        let e = counts-behind f fs d h.0 in
        let rest = same-behind f fs ds h.1 in
        λ i. record { cell = d; count = e i } ∷ rest i

    -- the count of a cell before all others comes first
    pub totals-first : (f : FacetCount) (fs : List FacetCount) → IsFirst f.cell (cells fs)
        → totals (f ∷ fs) ≡ f ∷ totals fs
    totals-first f fs h =
        let own = counts-own f fs h in
        let rest = same-behind f fs (distinct_items cmp (cells fs)) (all-distinct (λ d. cmp f.cell d ≡ Less) (cells fs) h) in
        ap (map (λ (c : FacetCell). let r : FacetCount = record { cell = c; count = counts (f ∷ fs) c } in r))
        (distinct-first f.cell (cells fs) h)
        ∙ (λ i. record { cell = f.cell; count = own i } ∷ rest i)

    module _ (apart : IsAntisymmetric cmp) where
      -- the same cells with the same counts have the same totals
      pub totals-same : (fs gs : List FacetCount) → ((c : FacetCell) → has cmp c (cells fs) ≡ has cmp c (cells gs))
          → ((c : FacetCell) → counts fs c ≡ counts gs c) → totals fs ≡ totals gs
      totals-same fs gs h e =
          let d = same_distinct cmp o apart (cells fs) (cells gs) h in
          λ i. map (λ (c : FacetCell). let r : FacetCount = record { cell = c; count = e c i } in r) (d i)

      -- the order of counts doesn't matter
      pub totals-moved : (fs gs : List FacetCount) → IsPermutation fs gs → totals fs ≡ totals gs
      totals-moved fs gs p =
          totals-same fs gs
          (λ c. list_any-IsPermutation (eq_by_cmp cmp c) (cells fs) (cells gs) (IsPermutation-map (λ (f : FacetCount). f.cell) fs gs p))
          (λ c. sym (sum_by-IsPermutation (λ (f : FacetCount). cond (eq_by_cmp cmp c f.cell) f.count 0) fs gs p))

      or-twice : (a b : Bool) → (a || (a || b)) ≡ (a || b)
      or-twice true b = refl
      or-twice false b = refl

      both-counts : (b : Bool) (m n k : ℕ) → cond b m 0 + (cond b n 0 + k) ≡ cond b (m + n) 0 + k
      both-counts true m n k = omega arith
      both-counts false m n k = omega arith

      -- two counts of one cell count as their sum
      pub totals-joined : (f g : FacetCount) (fs : List FacetCount) → cmp f.cell g.cell ≡ Equal
          → totals (f ∷ g ∷ fs) ≡ totals (record { cell = f.cell; count = f.count + g.count } ∷ fs)
      totals-joined f g fs e =
          let one : f.cell ≡ g.cell = apart f.cell g.cell e in
          totals-same (f ∷ g ∷ fs) (record { cell = f.cell; count = f.count + g.count } ∷ fs)
          (λ c. ap (λ d. eq_by_cmp cmp c f.cell || (eq_by_cmp cmp c d || has cmp c (cells fs))) (sym one)
          ∙ or-twice (eq_by_cmp cmp c f.cell) (has cmp c (cells fs)))
          (λ c. counts-cons f (g ∷ fs) c
          ∙ ap (λ n. cond (eq_by_cmp cmp c f.cell) f.count 0 + n) (counts-cons g fs c)
          ∙ ap (λ d. cond (eq_by_cmp cmp c f.cell) f.count 0 + (cond (eq_by_cmp cmp c d) g.count 0 + counts fs c)) (sym one)
          ∙ both-counts (eq_by_cmp cmp c f.cell) f.count g.count (counts fs c)
          ∙ sym (counts-cons (record { cell = f.cell; count = f.count + g.count }) fs c))
