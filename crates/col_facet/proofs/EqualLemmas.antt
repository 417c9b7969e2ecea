-- Facets of values that are all equal.
use Rattle.std.proofs.Common.{◌≡◌, ℕ, suc, ◌+◌, ◌<◌, Bool, true, false, List, [], ◌∷◌, ◌++◌, map, length, refl, sym, ◌∙◌, ap, arith}
use Rattle.std.specs.Prelude.{Option, Some}
use Rattle.std.specs.List.{All, AllByRecursion}
use Rattle.std.specs.declared.cmp.Ordering.{Ordering}
use Rattle.std.specs.declared.cmp.Ordering.TheVariants.{Less, Equal, Greater}
use Rattle.std.specs.Ordering.{is_gt, is_le, is_some_and, eq_by_cmp, ordering_reverse}
use Rattle.std.specs.Cmp.{IsTotalOrder}
use Rattle.std.proofs.lemmas.Bool.{true≢false, false≢true}
use Rattle.std.proofs.lemmas.Cmp.{tied_itself}
use Rattle.std.proofs.lemmas.List.Elements.{recursion_from_All}
use Rattle.col_model.proofs.OrderingLaws.{equal_of}
use Rattle.col_values.specs.Values.{IsAtMost}
use Rattle.col_facet.specs.Cells.{cell_cmp, cells_total, KeepsOrder}
use Rattle.col_facet.specs.Facets.{facets_of, totals_of}
use Rattle.col_facet.specs.declared.facet_cell.FacetCell.{FacetCell}
use Rattle.col_facet.specs.declared.facet_cell.FacetCount.{FacetCount}
use Rattle.col_facet.proofs.OrderLemmas.{cells-apart}
use Rattle.col_facet.proofs.TotalLemmas.{totals-joined}
use Rattle.col_facet.proofs.MergeLemmas.{totals-own}
use Rattle.col_facet.proofs.RunLemmas.{once, facets-totals}

-- a cell that stands so often, and once more at each of these values
equal-totals : {T : Type 0} (cell : T → FacetCell) (c : FacetCell) (k : ℕ) (xs : List T) → AllByRecursion (λ x. cell x ≡ c) xs
    → totals_of (record { cell = c; count = k } ∷ map once (map cell xs)) ≡ record { cell = c; count = k + length xs } ∷ []
equal-totals cell c k [] all =
    let same : k ≡ k + 0 = omega arith in
    totals-own (record { cell = c; count = k } ∷ []) refl ∙ ap (λ n. record { cell = c; count = n } ∷ []) same
equal-totals cell c k (x ∷ xs) all =
    let size : k + 1 + length xs ≡ k + suc (length xs) = omega arith in
    ap (λ d. totals_of (record { cell = c; count = k } ∷ once d ∷ map once (map cell xs))) all.0
    ∙ joined
    ∙ equal-totals cell c (k + 1) xs all.1
    ∙ ap (λ n. record { cell = c; count = n } ∷ []) size
  where
    joined : totals_of (record { cell = c; count = k } ∷ once c ∷ map once (map cell xs))
        ≡ totals_of (record { cell = c; count = k + 1 } ∷ map once (map cell xs))
    joined = unfold totals_of in
        totals-joined cell_cmp cells_total cells-apart (record { cell = c; count = k }) (once c) (map once (map cell xs))
        (tied_itself cells_total c)

-- the facets of values that all have one cell
one-facet : {T : Type 0} (cell : T → FacetCell) (c : FacetCell) (xs : List T) → 0 < length xs → AllByRecursion (λ x. cell x ≡ c) xs
    → facets_of (map cell xs) ≡ record { cell = c; count = length xs } ∷ []
one-facet cell c [] some all = absurd (omega (arith, some))
one-facet cell c (x ∷ xs) some all =
    let size : 1 + length xs ≡ suc (length xs) = omega arith in
    facets-totals (map cell (x ∷ xs))
    ∙ ap (λ d. totals_of (once d ∷ map once (map cell xs))) all.0
    ∙ equal-totals cell c 1 xs all.1
    ∙ ap (λ n. record { cell = c; count = n } ∷ []) size

module _ {T : Type 0} (cmp : T → T → Ordering) (o : IsTotalOrder cmp) (partial : T → T → Option Ordering)
    (told : (x y : T) → partial x y ≡ Some (cmp x y)) (eq : T → T → Bool) (ties : (x y : T) → eq x y ≡ eq_by_cmp cmp x y)
    (cell : T → FacetCell) (keeps : KeepsOrder cmp cell) where
  not-above : (x y : T) → IsAtMost partial x y → is_gt (cmp x y) ≡ false
  not-above x y h = go (cmp x y) (sym (ap (is_some_and is_le) (told x y)) ∙ h)
    where
      go : (r : Ordering) → is_le r ≡ true → is_gt r ≡ false
      go Less e = refl
      go Equal e = refl
      go Greater e = absurd (false≢true e)

  -- a value between two that are equal has the cell of the first
  one-cell : (least greatest x : T) → eq least greatest ≡ true → IsAtMost partial least x → IsAtMost partial x greatest
      → cell x ≡ cell least
  one-cell least greatest x e low high = go (cmp least x) refl
    where
      tied : cmp least greatest ≡ Equal
      tied = equal_of (cmp least greatest) (sym (ties least greatest) ∙ e)

      go : (r : Ordering) → cmp least x ≡ r → cell x ≡ cell least
      go Less f = absurd (true≢false
          (sym (ap is_gt (o.antisymm x greatest ∙ ap ordering_reverse (sym (o.congr least greatest x tied) ∙ f)))
          ∙ not-above x greatest high))
      go Equal f = sym (cells-apart (cell least) (cell x) (keeps least x ∙ f))
      go Greater f = absurd (true≢false (sym (ap is_gt f) ∙ not-above least x low))

  all-one : (least greatest : T) (xs : List T) → eq least greatest ≡ true → AllByRecursion (λ x. IsAtMost partial least x) xs
      → AllByRecursion (λ x. IsAtMost partial x greatest) xs → AllByRecursion (λ x. cell x ≡ cell least) xs
  all-one least greatest [] e low high = tt
  all-one least greatest (x ∷ xs) e low high =
      (one-cell least greatest x e low.0 high.0, all-one least greatest xs e low.1 high.1)

  -- the facets of values between two that are equal
  pub equal-facets : (least greatest : T) (xs : List T) → 0 < length xs → eq least greatest ≡ true
      → All (IsAtMost partial least) xs → All (λ v. IsAtMost partial v greatest) xs
      → facets_of (map cell xs) ≡ record { cell = cell least; count = length xs } ∷ []
  equal-facets least greatest xs some e low high =
      one-facet cell (cell least) xs some
      (all-one least greatest xs e (recursion_from_All (λ v. IsAtMost partial least v) xs low)
      (recursion_from_All (λ v. IsAtMost partial v greatest) xs high))

  -- a cell that was added to none, with how many of these values there are
  pub equal-found : (least greatest : T) (xs : List T) (old new : List FacetCount) (c : FacetCell) (n : ℕ)
      → new ≡ old ++ record { cell = c; count = n } ∷ [] → old ≡ [] → c ≡ cell least → n ≡ length xs
      → 0 < length xs → eq least greatest ≡ true
      → All (IsAtMost partial least) xs → All (λ v. IsAtMost partial v greatest) xs → new ≡ facets_of (map cell xs)
  equal-found least greatest xs old new c n more none same size some e low high =
      more ∙ ap (λ fs. fs ++ record { cell = c; count = n } ∷ []) none
      ∙ (λ i. record { cell = same i; count = size i } ∷ [])
      ∙ sym (equal-facets least greatest xs some e low high)
