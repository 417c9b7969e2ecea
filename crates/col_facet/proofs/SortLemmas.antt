-- Lists put in a total order in which items that tie are one.
use Rattle.std.proofs.Common.{◌≡◌, ℕ, suc, ◌+◌, Bool, true, false, not, ◌&&◌, if◌then◌else◌, List, [], ◌∷◌, map, get_or, refl, sym, ap, ◌∙◌, subst, arith}
use Rattle.std.specs.List.Sorted.{IsSortedBy}
use Rattle.std.specs.declared.cmp.Ordering.{Ordering}
use Rattle.std.specs.declared.cmp.Ordering.TheVariants.{Less, Equal, Greater}
use Rattle.std.specs.Ordering.{is_lt, is_gt, ordering_reverse}
use Rattle.std.specs.Cmp.{IsTotalOrder}
use Rattle.std.proofs.lemmas.Bool.{true≢false, and_parts, and_from}
use Rattle.col_common.specs.Ascending.{all_adjacent}
use Rattle.col_model.specs.Sorted.{inserted, sorted_items}

-- what isn't true is false
pub untrue : {b : Bool} → not b ≡ true → b ≡ false
untrue {b = true} e = absurd (true≢false (sym e))
untrue {b = false} e = refl

module _ {X : Type 0} (cmp : X → X → Ordering) (o : IsTotalOrder cmp) where
  abbrev at_most : X → X → Bool
  at_most a b = not (is_gt (cmp a b))

  in-order : (x y : X) → is_lt (cmp y x) ≡ false → at_most x y ≡ true
  in-order x y e = ap (λ r. not (is_gt r)) (o.antisymm x y) ∙ go (cmp y x) e
    where
      go : (r : Ordering) → is_lt r ≡ false → not (is_gt (ordering_reverse r)) ≡ true
      go Less e = absurd (true≢false e)
      go Equal e = refl
      go Greater e = refl

  -- a list in order is itself in order
  pub sorted-own : (xs : List X) → all_adjacent (λ x y. not (is_lt (cmp y x))) xs ≡ true → sorted_items at_most xs ≡ xs
  unfolding sorted_items
  sorted-own [] e = refl
  sorted-own (x ∷ []) e = refl
  sorted-own (x ∷ y ∷ ys) e =
      let parts = and_parts (not (is_lt (cmp y x))) (all_adjacent (λ x y. not (is_lt (cmp y x))) (y ∷ ys)) e in
      let first : at_most x y ≡ true = in-order x y (untrue parts.0) in
      ap (inserted at_most x) (sorted-own (y ∷ ys) parts.1) ∙ ap (λ b. if b then x ∷ y ∷ ys else y ∷ inserted at_most x ys) first

-- neighbours of a list that a sort left
pub adjacent-sorted : {X : Type 0} (lt : X → X → Bool) (xs : List X) → IsSortedBy lt xs
    → all_adjacent (λ x y. not (lt y x)) xs ≡ true
adjacent-sorted lt [] h = refl
adjacent-sorted lt (x ∷ []) h = refl
adjacent-sorted {X = X} lt (x ∷ y ∷ ys) h =
    and_from (not (lt y x)) (all_adjacent (λ x y. not (lt y x)) (y ∷ ys)) (ap not (h 0 x (omega arith) (omega arith)))
    (adjacent-sorted lt (y ∷ ys) (λ k d p q. next k d (h (suc k) d (omega arith) (omega (arith, q)))))
  where
    next : (k : ℕ) (d : X) → lt (get_or (x ∷ y ∷ ys) (suc k + 1) d) (get_or (x ∷ y ∷ ys) (suc k) d) ≡ false
        → lt (get_or (y ∷ ys) (k + 1) d) (get_or (y ∷ ys) k d) ≡ false
    next k d l =
        let e : suc k + 1 ≡ suc (k + 1) = omega arith in
        subst (λ i. lt (get_or (x ∷ y ∷ ys) i d) (get_or (y ∷ ys) k d) ≡ false) e l

-- a test of neighbours, of what a function makes of items
pub adjacent-map : {A B : Type 0} (test : B → B → Bool) (f : A → B) (xs : List A)
    → all_adjacent test (map f xs) ≡ all_adjacent (λ x y. test (f x) (f y)) xs
adjacent-map test f [] = refl
adjacent-map test f (x ∷ []) = refl
adjacent-map test f (x ∷ y ∷ ys) = ap (λ b. test (f x) (f y) && b) (adjacent-map test f (y ∷ ys))
