-- Lists with the same totals, and which totals 64 bits count.
use Rattle.std.proofs.Common.{◌≡◌, ℕ, ◌+◌, ◌^◌, ◌<◌, ◌≤◌, nat_lt, Bool, true, false, cond, ◌||◌, List, [], ◌∷◌, ◌++◌, map, refl, sym, ◌∙◌, ap, ap₂, subst, arith}
use Rattle.std.specs.List.Sorted.{IsStrictlySortedBy}
use Rattle.std.specs.declared.cmp.Ordering.{Ordering}
use Rattle.std.specs.Ordering.{eq_by_cmp}
use Rattle.std.specs.Cmp.{IsTotalOrder}
use Rattle.std.specs.FinMap.{IsAntisymmetric}
use Rattle.std.proofs.lemmas.Bool.{false≢true, and_parts, and_from, or_parts, lt-ltb, ltb-true}
use Rattle.std.proofs.lemmas.List.{map-append}
use Rattle.std.proofs.lemmas.List.Folds.{list_any-append}
use Rattle.std.proofs.lemmas.List.Sums.{sum_by-append}
use Rattle.col_model.specs.Sorted.{distinct_items}
use Rattle.col_model.proofs.DistinctLaws.{has, has-distinct}
use Rattle.col_model.proofs.OrderingLaws.{equal_of}
use Rattle.col_facet.specs.Facets.{are_counted}
use Rattle.col_facet.specs.declared.facet_cell.FacetCell.{FacetCell}
use Rattle.col_facet.specs.declared.facet_cell.FacetCount.{FacetCount}
use Rattle.col_facet.proofs.TotalLemmas.{cells, counts, totals, IsFirst, counts-cons, counts-none, totals-same, sorted-distinct}

-- the same cells stand in both lists, with the same counts
pub record AreAlike (cmp : FacetCell → FacetCell → Ordering) (fs gs : List FacetCount) : Type 0 where
  pub cells_are : (c : FacetCell) → has cmp c (cells fs) ≡ has cmp c (cells gs)
  pub counts_are : (c : FacetCell) → counts cmp fs c ≡ counts cmp gs c

-- each of these cells with its count
abbrev with_counts : (FacetCell → ℕ) → List FacetCell → List FacetCount
with_counts n ds = map (λ c. record { cell = c; count = n c }) ds

cells-with_counts : (n : FacetCell → ℕ) (ds : List FacetCell) → cells (with_counts n ds) ≡ ds
cells-with_counts n [] = refl
cells-with_counts n (d ∷ ds) = ap (λ r. d ∷ r) (cells-with_counts n ds)

module _ (cmp : FacetCell → FacetCell → Ordering) where
  -- a list is like itself
  pub alike-own : (fs : List FacetCount) → AreAlike cmp fs fs
  alike-own fs = record { cells_are = λ c. refl; counts_are = λ c. refl }

  has-joined : (fs gs : List FacetCount) (c : FacetCell) → has cmp c (cells (fs ++ gs)) ≡ (has cmp c (cells fs) || has cmp c (cells gs))
  has-joined fs gs c =
      ap (has cmp c) (map-append (λ (f : FacetCount). f.cell) fs gs)
      ∙ list_any-append (eq_by_cmp cmp c) (cells fs) (cells gs)

  -- the counts of two lists are summed
  pub counts-joined : (fs gs : List FacetCount) (c : FacetCell) → counts cmp (fs ++ gs) c ≡ counts cmp fs c + counts cmp gs c
  counts-joined fs gs c = sum_by-append (λ (f : FacetCount). cond (eq_by_cmp cmp c f.cell) f.count 0) fs gs

  -- lists that are like others, joined as those
  pub alike-joined : (fs gs hs ks : List FacetCount) → AreAlike cmp fs gs → AreAlike cmp hs ks → AreAlike cmp (fs ++ hs) (gs ++ ks)
  alike-joined fs gs hs ks a b = record {
    cells_are = λ c.
        has-joined fs hs c ∙ ap₂ (λ x y. x || y) (a.cells_are c) (b.cells_are c) ∙ sym (has-joined gs ks c);
    counts_are = λ c.
        counts-joined fs hs c ∙ ap₂ (λ m n. m + n) (a.counts_are c) (b.counts_are c) ∙ sym (counts-joined gs ks c);
  }

  counts-absent : (fs : List FacetCount) (c : FacetCell) → has cmp c (cells fs) ≡ false → counts cmp fs c ≡ 0
  counts-absent [] c e = refl
  counts-absent (f ∷ fs) c e =
      let parts = or_parts (eq_by_cmp cmp c f.cell) (has cmp c (cells fs)) e in
      counts-cons cmp f fs c ∙ ap₂ (λ b n. cond b f.count 0 + n) parts.0 (counts-absent fs c parts.1)

  counts-present : (fs : List FacetCount) (c : FacetCell) → cond (has cmp c (cells fs)) (counts cmp fs c) 0 ≡ counts cmp fs c
  counts-present fs c = go (has cmp c (cells fs)) refl
    where
      go : (b : Bool) → has cmp c (cells fs) ≡ b → cond b (counts cmp fs c) 0 ≡ counts cmp fs c
      go true e = refl
      go false e = sym (counts-absent fs c e)

  module _ (o : IsTotalOrder cmp) (apart : IsAntisymmetric cmp) where
    counts-listed : (n : FacetCell → ℕ) (ds : List FacetCell) → IsStrictlySortedBy cmp ds → (c : FacetCell)
        → counts cmp (with_counts n ds) c ≡ cond (has cmp c ds) (n c) 0
    unfolding IsStrictlySortedBy
    counts-listed n [] s c = refl
    counts-listed n (d ∷ ds) s c =
        counts-cons cmp (record { cell = d; count = n d }) (with_counts n ds) c
        ∙ go (eq_by_cmp cmp c d) refl (counts-listed n ds s.1 c)
      where
        go : (b : Bool) → eq_by_cmp cmp c d ≡ b → counts cmp (with_counts n ds) c ≡ cond (has cmp c ds) (n c) 0
            → cond b (n d) 0 + counts cmp (with_counts n ds) c ≡ cond (b || has cmp c ds) (n c) 0
        go true e later =
            let one : c ≡ d = apart c d (equal_of (cmp c d) e) in
            let first = subst (λ cs. IsFirst cmp d cs) (sym (cells-with_counts n ds)) s.0 in
            let none : counts cmp (with_counts n ds) c ≡ 0 =
            ap (counts cmp (with_counts n ds)) one ∙ counts-none cmp o (with_counts n ds) d first in
            ap₂ (λ m k. m + k) (ap n (sym one)) none ∙ omega arith
        go false e later = let none : 0 + counts cmp (with_counts n ds) c ≡ counts cmp (with_counts n ds) c = omega arith in none ∙ later

    counts-totals : (fs : List FacetCount) (c : FacetCell) → counts cmp (totals cmp fs) c ≡ counts cmp fs c
    counts-totals fs c =
        counts-listed (counts cmp fs) (distinct_items cmp (cells fs)) (sorted-distinct cmp o (cells fs)) c
        ∙ ap (λ b. cond b (counts cmp fs c) 0) (has-distinct cmp o c (cells fs)) ∙ counts-present fs c

    -- totals are like the list that they are of
    pub alike-totals : (fs : List FacetCount) → AreAlike cmp (totals cmp fs) fs
    alike-totals fs = record {
      cells_are = λ c.
          ap (has cmp c) (cells-with_counts (counts cmp fs) (distinct_items cmp (cells fs))) ∙ has-distinct cmp o c (cells fs);
      counts_are = counts-totals fs;
    }

    -- lists that are alike have the same totals
    pub totals-alike : (fs gs : List FacetCount) → AreAlike cmp fs gs → totals cmp fs ≡ totals cmp gs
    totals-alike fs gs a = totals-same cmp o apart fs gs a.cells_are a.counts_are

    bounded-at : (n : FacetCell → ℕ) (ds : List FacetCell) → are_counted (with_counts n ds) ≡ true → (c : FacetCell)
        → has cmp c ds ≡ true → n c < 2 ^ 64
    bounded-at n [] e c h = absurd (false≢true h)
    bounded-at n (d ∷ ds) e c h =
        let parts = and_parts (nat_lt (n d) (2 ^ 64)) (are_counted (with_counts n ds)) e in
        go (eq_by_cmp cmp c d) refl h parts.0 (bounded-at n ds parts.1 c)
      where
        go : (b : Bool) → eq_by_cmp cmp c d ≡ b → (b || has cmp c ds) ≡ true → nat_lt (n d) (2 ^ 64) ≡ true
            → (has cmp c ds ≡ true → n c < 2 ^ 64) → n c < 2 ^ 64
        go true e h first later =
            subst (λ x. n x < 2 ^ 64) (sym (apart c d (equal_of (cmp c d) e))) (ltb-true (n d) (2 ^ 64) first)
        go false e h first later = later h

    counts-bounded : (fs : List FacetCount) → are_counted (totals cmp fs) ≡ true → (c : FacetCell) → counts cmp fs c < 2 ^ 64
    counts-bounded fs e c = go (has cmp c (cells fs)) refl
      where
        go : (b : Bool) → has cmp c (cells fs) ≡ b → counts cmp fs c < 2 ^ 64
        go true h = bounded-at (counts cmp fs) (distinct_items cmp (cells fs)) e c (has-distinct cmp o c (cells fs) ∙ h)
        go false h = let none = counts-absent fs c h in omega arith

    -- a cell that 64 bits don't count
    pub uncounted-at : (fs : List FacetCount) (c : FacetCell) → 2 ^ 64 ≤ counts cmp fs c → are_counted (totals cmp fs) ≡ false
    uncounted-at fs c h = go (are_counted (totals cmp fs)) refl
      where
        go : (b : Bool) → are_counted (totals cmp fs) ≡ b → b ≡ false
        go true e = let below = counts-bounded fs e c in absurd (omega arith)
        go false e = refl

    all-counted : (n : FacetCell → ℕ) (ds : List FacetCell) → ((c : FacetCell) → n c < 2 ^ 64) → are_counted (with_counts n ds) ≡ true
    all-counted n [] h = refl
    all-counted n (d ∷ ds) h = and_from (nat_lt (n d) (2 ^ 64)) _ (lt-ltb (n d) (2 ^ 64) (h d)) (all-counted n ds h)

    -- what 64 bits don't count in one list, they don't count in one that counts no cell less often
    pub uncounted-more : (fs gs : List FacetCount) → ((c : FacetCell) → counts cmp fs c ≤ counts cmp gs c)
        → are_counted (totals cmp fs) ≡ false → are_counted (totals cmp gs) ≡ false
    uncounted-more fs gs more e = go (are_counted (totals cmp gs)) refl
      where
        go : (b : Bool) → are_counted (totals cmp gs) ≡ b → b ≡ false
        go true f =
            let below : (c : FacetCell) → counts cmp fs c < 2 ^ 64 = λ c.
            let a = counts-bounded gs f c in let b = more c in omega arith in
            sym (all-counted (counts cmp fs) (distinct_items cmp (cells fs)) below) ∙ e
        go false f = refl
