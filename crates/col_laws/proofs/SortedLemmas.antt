-- Lists put in order by a test: which items stay as they stand, and that none behind another has to
-- stand before it.
use Rattle.std.proofs.Common.{◌≡◌, ℕ, zero, suc, ◌≤◌, Bool, true, false, cond, List, [], ◌∷◌, filter, slice_get, Some, refl, sym, ◌∙◌, ap, ap₂, arith}
use Rattle.std.specs.Prelude.{if◌then◌else◌}
use Rattle.std.specs.List.{AllByRecursion}
use Rattle.std.proofs.lemmas.Bool.{true≢false}
use Rattle.std.proofs.lemmas.Option.{same_Some}
use Rattle.col_model.specs.Sorted.{inserted, sorted_items}
use Rattle.col_model.proofs.SortLaws.{all-inserted}

-- ---- items of which each may stand before each other

module _ {X : Type 0} (at_most : X → X → Bool) (test : X → Bool)
    (tied : (x y : X) → test x ≡ true → test y ≡ true → at_most x y ≡ true) where
  -- an item that is put in its place stands, among those that pass, in front of those behind it
  same-inserted : (x : X) (ys : List X) → filter test (inserted at_most x ys) ≡ filter test (x ∷ ys)
  same-inserted x [] = refl
  same-inserted x (y ∷ ys) = by (at_most x y) refl (test x) refl (test y) refl (same-inserted x ys)
    where
      by : (b : Bool) → at_most x y ≡ b → (p : Bool) → test x ≡ p → (q : Bool) → test y ≡ q
          → filter test (inserted at_most x ys) ≡ cond p (x ∷ filter test ys) (filter test ys)
          → filter test (if b then x ∷ y ∷ ys else y ∷ inserted at_most x ys)
          ≡ cond p (x ∷ cond q (y ∷ filter test ys) (filter test ys)) (cond q (y ∷ filter test ys) (filter test ys))
      by true e p f q g later = rw (f, g) refl
      by false e true f true g later = absurd (true≢false (sym (tied x y f g) ∙ e))
      by false e false f true g later = rw g (ap (λ r. y ∷ r) later)
      by false e p f false g later = rw g later

  -- those that pass a test, of which each may stand before each other, stay as they stand
  pub same-sorted : (xs : List X) → filter test (sorted_items at_most xs) ≡ filter test xs
  unfolding sorted_items
  same-sorted [] = refl
  same-sorted (x ∷ xs) =
      same-inserted x (sorted_items at_most xs)
      ∙ ap (λ r. cond (test x) (x ∷ r) r) (same-sorted xs)

-- ---- a test that goes through, and holds of any two in one of both ways

-- a test that is an order of all items, but that it may hold of two in both ways
pub record IsOrder {X : Type 0} (at_most : X → X → Bool) : Type 0 where
  pub through : (x y z : X) → at_most x y ≡ true → at_most y z ≡ true → at_most x z ≡ true
  pub turned : (x y : X) → at_most x y ≡ false → at_most y x ≡ true

module _ {X : Type 0} (at_most : X → X → Bool) (o : IsOrder at_most) where
  -- each item may stand before all behind it
  abbrev AreInOrder : List X → Type 0
  AreInOrder [] = Unit {0}
  AreInOrder (x ∷ xs) = AllByRecursion (λ y. at_most x y ≡ true) xs × AreInOrder xs

  -- an item may stand before itself
  itself : (x : X) → at_most x x ≡ true
  itself x = by (at_most x x) refl
    where
      by : (b : Bool) → at_most x x ≡ b → at_most x x ≡ true
      by true e = e
      by false e = o.turned x x e

  -- what may stand before an item may stand before all that this one may stand before
  all-through : (x y : X) (zs : List X) → at_most x y ≡ true → AllByRecursion (λ z. at_most y z ≡ true) zs
      → AllByRecursion (λ z. at_most x z ≡ true) zs
  all-through x y [] e all = tt
  all-through x y (z ∷ zs) e all = (o.through x y z e all.0, all-through x y zs e all.1)

  -- items in order stay so with one more in its place
  ordered-inserted : (x : X) (ys : List X) → AreInOrder ys → AreInOrder (inserted at_most x ys)
  ordered-inserted x [] h = (tt, tt)
  ordered-inserted x (y ∷ ys) h = by (at_most x y) refl (ordered-inserted x ys h.1)
    where
      by : (b : Bool) → at_most x y ≡ b → AreInOrder (inserted at_most x ys)
          → AreInOrder (if b then x ∷ y ∷ ys else y ∷ inserted at_most x ys)
      by true e later = ((e, all-through x y ys e h.0), h)
      by false e later = (all-inserted at_most (λ z. at_most y z ≡ true) x ys (o.turned x y e) h.0, later)

  -- items that are put in order are in order
  ordered : (xs : List X) → AreInOrder (sorted_items at_most xs)
  unfolding sorted_items
  ordered [] = tt
  ordered (x ∷ xs) = ordered-inserted x (sorted_items at_most xs) (ordered xs)

  -- an item that may stand before all others, and one of them
  at-place : (x : X) (ys : List X) (j : ℕ) (y : X) → AllByRecursion (λ y. at_most x y ≡ true) ys
      → slice_get ys j ≡ Some y → at_most x y ≡ true
  at-place x [] j y all e = cc
  at-place x (z ∷ ys) zero y all e = ap (at_most x) (sym (same_Some z y e)) ∙ all.0
  at-place x (z ∷ ys) (suc j) y all e = at-place x ys j y all.1 e

  -- items at two places of a list in order
  at-places : (xs : List X) (i j : ℕ) (x y : X) → AreInOrder xs → i ≤ j → slice_get xs i ≡ Some x
      → slice_get xs j ≡ Some y → at_most x y ≡ true
  at-places [] i j x y h l p q = cc
  at-places (z ∷ xs) zero zero x y h l p q = ap₂ at_most (sym (same_Some z x p)) (sym (same_Some z y q)) ∙ itself z
  at-places (z ∷ xs) zero (suc j) x y h l p q =
      ap (λ v. at_most v y) (sym (same_Some z x p)) ∙ at-place z xs j y h.0 q
  at-places (z ∷ xs) (suc i) zero x y h l p q = absurd (omega arith)
  at-places (z ∷ xs) (suc i) (suc j) x y h l p q = at-places xs i j x y h.1 (omega arith) p q

  -- of items that are put in order, each may stand before itself and those behind it
  pub sorted-in-order : (xs : List X) (i j : ℕ) (x y : X) → i ≤ j → slice_get (sorted_items at_most xs) i ≡ Some x
      → slice_get (sorted_items at_most xs) j ≡ Some y → at_most x y ≡ true
  sorted-in-order xs i j x y l p q = at-places (sorted_items at_most xs) i j x y (ordered xs) l p q
