-- Counts in order of their cells, summed up from the front.
use Rattle.std.proofs.Common.{◌≡◌, ℕ, suc, ◌+◌, ◌^◌, ◌<◌, ◌≤◌, nat_lt, not, cond, true, false, ◌&&◌, List, [], ◌∷◌, ◌++◌, drop, length, get_or, refl, sym, ◌∙◌, ap, ap₂, subst, arith}
use Rattle.std.specs.declared.cmp.Ordering.{Ordering}
use Rattle.std.specs.declared.cmp.Ordering.TheVariants.{Less, Equal, Greater}
use Rattle.std.specs.Ordering.{eq_by_cmp, is_eq}
use Rattle.std.proofs.Math.Seq.{drop-cons}
use Rattle.std.proofs.Math.ListN.{drop_of_length-le}
use Rattle.std.proofs.Math.Bool.{and-false}
use Rattle.std.proofs.lemmas.Bool.{true≢false}
use Rattle.std.proofs.lemmas.Cmp.{tied_itself}
use Rattle.std.proofs.lemmas.List.{append-nil, drop-map}
use Rattle.std.proofs.lemmas.List.Folds.{list_all-append}
use denote.Ref.{Bor}
use Rattle.col_model.specs.Sorted.{distinct_items}
use Rattle.col_facet.specs.Cells.{cell_cmp, cells_total}
use Rattle.col_facet.specs.Facets.{totals_of, are_counted}
use Rattle.col_facet.specs.Listed.{listed_count, listed_counts, are_in_order, begins_apart}
use Rattle.col_facet.specs.declared.facet_cell.FacetCell.{FacetCell}
use Rattle.col_facet.specs.declared.facet_cell.FacetCount.{FacetCount}
use Rattle.col_facet.proofs.OrderLemmas.{cells-apart}
use Rattle.col_facet.proofs.TotalLemmas.{counts, counts-cons, totals-first, totals-joined}
use Rattle.col_facet.proofs.MergeLemmas.{moved-on}
use Rattle.col_facet.proofs.AlikeLemmas.{uncounted-at}
use Rattle.col_facet.proofs.ListedLemmas.{first-apart, in_order-drop}

-- the counts with so much more for the first cell
abbrev pub with_more : ℕ → List FacetCount → List FacetCount
with_more n [] = []
with_more n (f ∷ fs) = record { cell = f.cell; count = n + f.count } ∷ fs

with_nothing : (fs : List FacetCount) → with_more 0 fs ≡ fs
with_nothing [] = refl
with_nothing (f ∷ fs) =
    let e : 0 + f.count ≡ f.count = omega arith in
    λ i. record { cell = f.cell; count = e i } ∷ fs

joined-next : (f : FacetCount) (n : ℕ) (fs : List FacetCount) → begins_apart f.cell fs ≡ false
    → totals_of (record { cell = f.cell; count = n } ∷ fs) ≡ totals_of (with_more n fs)
unfolding totals_of
joined-next f n [] e = absurd (true≢false e)
joined-next f n (g ∷ fs) e =
    let same : cell_cmp f.cell g.cell ≡ Equal = go (cell_cmp f.cell g.cell) e in
    totals-joined cell_cmp cells_total cells-apart (record { cell = f.cell; count = n }) g fs same
    ∙ ap (λ c. totals_of (record { cell = c; count = n + g.count } ∷ fs)) (cells-apart f.cell g.cell same)
  where
    go : (r : Ordering) → not (is_eq r) ≡ false → r ≡ Equal
    go Less e = absurd (true≢false e)
    go Equal e = refl
    go Greater e = absurd (true≢false e)

counts-front : (f : FacetCount) (fs : List FacetCount) → 2 ^ 64 ≤ f.count → 2 ^ 64 ≤ counts cell_cmp (f ∷ fs) f.cell
counts-front f fs h =
    let own : eq_by_cmp cell_cmp f.cell f.cell ≡ true = ap is_eq (tied_itself cells_total f.cell) in
    let first : counts cell_cmp (f ∷ fs) f.cell ≡ f.count + counts cell_cmp fs f.cell =
    counts-cons cell_cmp f fs f.cell ∙ ap (λ b. cond b f.count 0 + counts cell_cmp fs f.cell) own in
    omega (arith, first, h)

-- these are the sums up to a place, where so much of the next cell is summed already
pub record AreSums (listed : List (Bor FacetCell × ℕ)) (sums : List FacetCount) (so_far i : ℕ) : Type 0 where
  pub totals_are : sums ++ totals_of (with_more so_far (listed_counts (drop i listed))) ≡ totals_of (listed_counts listed)

-- at the end they are the totals
pub all-summed : (listed : List (Bor FacetCell × ℕ)) (sums : List FacetCount) (so_far i : ℕ) → AreSums listed sums so_far i
    → length listed ≤ i → sums ≡ totals_of (listed_counts listed)
unfolding totals_of distinct_items
all-summed listed sums so_far i s h =
    sym (append-nil sums)
    ∙ ap (λ xs. sums ++ totals_of (with_more so_far (listed_counts xs))) (sym (drop_of_length-le listed h)) ∙ s.totals_are

-- the count at a place, beside the sums up to it
module _ (listed : List (Bor FacetCell × ℕ)) {sums : List FacetCount} {so_far i : ℕ} (s : AreSums listed sums so_far i)
    (p : Bor FacetCell × ℕ) (some : i < length listed) (is : p ≡ get_or listed i p) where
  here : drop i listed ≡ p ∷ drop (i + 1) listed
  here =
      let e : suc i ≡ i + 1 = omega arith in
      drop-cons listed i p some ∙ ap₂ (λ q j. q ∷ drop j listed) (sym is) e

  begun : sums ++ totals_of (record { cell = p.0.now; count = so_far + p.1 } ∷ listed_counts (drop (i + 1) listed))
      ≡ totals_of (listed_counts listed)
  begun = ap (λ xs. sums ++ totals_of (with_more so_far (listed_counts xs))) (sym here) ∙ s.totals_are

  -- more of its cell come next
  pub more-summed : (sum : ℕ) → sum ≡ so_far + p.1 → begins_apart p.0.now (listed_counts (drop (i + 1) listed)) ≡ false
      → AreSums listed sums sum (i + 1)
  more-summed sum e next =
      let left = listed_counts (drop (i + 1) listed) in
      record {
        totals_are =
            ap (λ xs. sums ++ xs) (sym (joined-next (listed_count p) sum left next))
            ∙ ap (λ n. sums ++ totals_of (record { cell = p.0.now; count = n } ∷ left)) e ∙ begun;
      }

  -- it is the last of its cell
  pub cell-summed : are_in_order (listed_counts listed) ≡ true → (sum : ℕ) → sum ≡ so_far + p.1
      → begins_apart p.0.now (listed_counts (drop (i + 1) listed)) ≡ true
      → (new : List FacetCount) → new ≡ sums ++ record { cell = p.0.now; count = sum } ∷ [] → AreSums listed new 0 (i + 1)
  unfolding totals_of
  cell-summed up sum e next new is_new =
      let left = listed_counts (drop (i + 1) listed) in
      let up_here = subst (λ xs. are_in_order xs ≡ true) (drop-map listed_count i listed ∙ ap listed_counts here)
      (in_order-drop i (listed_counts listed) up) in
      let first = totals-first cell_cmp cells_total (record { cell = p.0.now; count = sum }) left
      (first-apart (listed_count p) left up_here next) in
      record {
        totals_are =
            ap (λ xs. new ++ totals_of xs) (with_nothing left)
            ∙ moved-on sums new (totals_of left) (totals_of (record { cell = p.0.now; count = sum } ∷ left)) _ is_new first
            ∙ ap (λ n. sums ++ totals_of (record { cell = p.0.now; count = n } ∷ left)) e ∙ begun;
      }

  -- 64 bits don't count it
  pub too-great : 2 ^ 64 ≤ so_far + p.1 → are_counted (totals_of (listed_counts listed)) ≡ false
  unfolding totals_of
  too-great h =
      let f : FacetCount = record { cell = p.0.now; count = so_far + p.1 } in
      let left = listed_counts (drop (i + 1) listed) in
      let later = uncounted-at cell_cmp cells_total cells-apart (f ∷ left) f.cell (counts-front f left h) in
      sym (ap are_counted begun) ∙ list_all-append (λ (x : FacetCount). nat_lt x.count (2 ^ 64)) sums (totals_of (f ∷ left))
      ∙ ap (λ b. are_counted sums && b) later ∙ and-false (are_counted sums)
