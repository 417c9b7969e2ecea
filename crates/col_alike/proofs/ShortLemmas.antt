-- A stack that is made shorter, from its first part on.
use Rattle.std.proofs.Common.{◌≡◌, ℕ, zero, suc, ◌+◌, ◌≤◌, ◌<◌, List, [], ◌∷◌, ◌++◌, take, drop, Some, slice_get, refl, sym, ◌∙◌, ap, subst, arith}
use Rattle.std.specs.Prelude.{sum}
use Rattle.std.specs.List.{AllByRecursion, sum_by}
use Rattle.std.proofs.lemmas.List.{take-map}
use Rattle.std.proofs.lemmas.List.Sums.{sum-map, sum_by-append}
use Rattle.col_model.specs.Category.{Slot}
use Rattle.col_model.specs.File.{Part}
use Rattle.col_model.specs.Merge.{row_counts}
use Rattle.col_model.specs.Positions.{start_of}
use Rattle.col_model.proofs.SharedTypes.{some≢none, same-some}
use Rattle.col_alike.proofs.AlikeLemmas.{LookAlike, alike-self, alike-append}
use Rattle.col_alike.proofs.GapLemmas.{LacksColumn, gaps_of, alike-gaps}

-- the first items and so many behind them
take-more : {A : Type 0} (a k : ℕ) (xs : List A) → take (a + k) xs ≡ take a xs ++ take k (drop a xs)
take-more zero k xs = let e : 0 + k ≡ k = omega arith in ap (λ n. take n xs) e
take-more (suc a) zero [] = let e : suc a + 0 ≡ suc a = omega arith in ap (λ n. take n []) e
take-more (suc a) (suc k) [] = let e : suc a + suc k ≡ suc (a + suc k) = omega arith in ap (λ n. take n []) e
take-more (suc a) k (x ∷ xs) =
    let e : suc a + k ≡ suc (a + k) = omega arith in
    ap (λ n. take n (x ∷ xs)) e ∙ ap (λ ys. x ∷ ys) (take-more a k xs)

one-left : {A : Type 0} (xs : List A) (a : ℕ) (x : A) → slice_get xs a ≡ Some x → take 1 (drop a xs) ≡ x ∷ []
one-left [] a x e = absurd (some≢none x (sym e))
one-left (y ∷ xs) zero x e = ap (λ z. z ∷ []) (same-some y x e)
one-left (y ∷ xs) (suc a) x e = one-left xs a x e

-- items between two places have what each of them has
pub all-between : {A : Type 0} (P : A → Type 0) (xs : List A) (a k : ℕ)
    → ((i : ℕ) (x : A) → a ≤ i → i < a + k → slice_get xs i ≡ Some x → P x) → AllByRecursion P (take k (drop a xs))
all-between P [] zero zero f = tt
all-between P [] zero (suc k) f = tt
all-between P [] (suc a) zero f = tt
all-between P [] (suc a) (suc k) f = tt
all-between P (x ∷ xs) zero zero f = tt
all-between P (x ∷ xs) zero (suc k) f = (
  f 0 x (omega arith) (omega arith) refl,
  all-between P xs 0 k (λ i y h g e. f (suc i) y (omega arith) (omega (arith, g)) e),
)
all-between P (x ∷ xs) (suc a) k f = all-between P xs a k (λ i y h g e. f (suc i) y (omega (arith, h)) (omega (arith, g)) e)

-- the rows between two places
pub rows-between : (ps : List Part) (a k : ℕ)
    → start_of (row_counts ps) (a + k) ≡ start_of (row_counts ps) a + sum (row_counts (take k (drop a ps)))
rows-between ps a k =
    ap sum (take-map rows (a + k) ps ∙ ap row_counts (take-more a k ps))
    ∙ sum-map rows (take a ps ++ take k (drop a ps))
    ∙ sum_by-append rows (take a ps) (take k (drop a ps))
    ∙ ap (λ n. n + sum_by rows (take k (drop a ps))) (sym (sum-map rows (take a ps)))
    ∙ ap (λ n. sum (row_counts (take a ps)) + n) (sym (sum-map rows (take k (drop a ps))))
    ∙ ap (λ ns. sum ns + sum (row_counts (take k (drop a ps)))) (sym (take-map rows a ps))
  where
    rows : Part → ℕ
    rows p = p.row_count

module _ (slot : Slot) (ps short : List Part) (a : ℕ) (alike : LookAlike slot (take a ps) short) where
  -- parts without the column behind those that were made shorter
  pub gap-behind : (k : ℕ) → AllByRecursion (LacksColumn slot) (take k (drop a ps))
      → LookAlike slot (take (a + k) ps) (short ++ gaps_of (sum (row_counts (take k (drop a ps)))))
  gap-behind k all =
      let gap = take k (drop a ps) in
      subst (λ qs. LookAlike slot qs (short ++ gaps_of (sum (row_counts gap)))) (sym (take-more a k ps))
      (alike-append slot (take a ps) short gap (gaps_of (sum (row_counts gap))) alike (alike-gaps slot gap all))

  -- the part behind them
  pub one-behind : (p : Part) → slice_get ps a ≡ Some p → LookAlike slot (take (a + 1) ps) (short ++ p ∷ [])
  one-behind p e =
      subst (λ qs. LookAlike slot qs (short ++ p ∷ []))
      (sym (take-more a 1 ps ∙ ap (λ ys. take a ps ++ ys) (one-left ps a p e)))
      (alike-append slot (take a ps) short (p ∷ []) (p ∷ []) alike (alike-self slot (p ∷ [])))
