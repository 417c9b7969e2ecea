-- What goes along a permutation, and what holds of each item of a list.
use Rattle.std.proofs.Common.{ℕ, zero, suc, ◌<◌, List, [], ◌∷◌, ◌++◌, length, set, get_or, arith, IsPermutation, append_assoc}
use Rattle.std.specs.Prelude.{flat_map}
use Rattle.std.specs.List.{swap, AllByRecursion}
use Rattle.std.proofs.lemmas.List.Elements.{recursion_from_All, All-from_recursion}
use Rattle.std.proofs.lemmas.List.Sorted.{All-permutation, IsPermutation-keeps, IsPermutation-refl, IsPermutation-trans, IsPermutation-append_left, IsPermutation-append_right, IsPermutation-append_comm}
use Rattle.col_model.proofs.ListLaws.{all-two}

-- A relation that goes under a first item, over two that change places, and from step to step.
module _ {X : Type 0} (R : List X → List X → Type 0)
    (same : (xs : List X) → R xs xs)
    (under : (x : X) (xs ys : List X) → R xs ys → R (x ∷ xs) (x ∷ ys))
    (turned : (x y : X) (xs : List X) → R (x ∷ y ∷ xs) (y ∷ x ∷ xs))
    (chain : (xs ys zs : List X) → R xs ys → R ys zs → R xs zs) where
  -- the first item, and the one at a place behind it
  with_first : (x d : X) (xs : List X) (j : ℕ) → j < length xs → R (x ∷ xs) (get_or xs j d ∷ set xs j x)
  with_first x d [] j h = absurd (omega arith)
  with_first x d (y ∷ xs) zero h = turned x y xs
  with_first x d (y ∷ xs) (suc j) h =
      let deeper = under y _ _ (with_first x d xs j (omega arith)) in
      chain _ _ _ (turned x y xs) (chain _ _ _ deeper (turned y (get_or xs j d) (set xs j x)))

  -- the items at any two places
  at_places : (d : X) (xs : List X) (i j : ℕ) → i < length xs → j < length xs → R xs (set (set xs i (get_or xs j d)) j (get_or xs i d))
  at_places d [] i j p q = absurd (omega arith)
  at_places d (x ∷ xs) zero zero p q = same (x ∷ xs)
  at_places d (x ∷ xs) zero (suc j) p q = with_first x d xs j (omega arith)
  at_places d (x ∷ xs) (suc i) zero p q = with_first x d xs i (omega arith)
  at_places d (x ∷ xs) (suc i) (suc j) p q = under x _ _ (at_places d xs i j (omega arith) (omega arith))

  swapped : (xs : List X) (i j : ℕ) → i < length xs → j < length xs → R xs (swap xs i j)
  swapped [] i j p q = same []
  swapped (x ∷ xs) i j p q = at_places x (x ∷ xs) i j p q

  -- what is so of equal lists, and stays so under a first item and where two turn, is so of a
  -- permutation
  pub along : (xs ys : List X) → IsPermutation xs ys → R xs ys
  along xs = IsPermutation-keeps xs (R xs) (same xs) (λ l i j p q h. chain xs l _ h (swapped l i j p q))

-- what lists are made of the items is moved with them
pub flat-moved : {A B : Type 0} (f : A → List B) (xs ys : List A) → IsPermutation xs ys → IsPermutation (flat_map f xs) (flat_map f ys)
flat-moved f = along (λ xs ys. IsPermutation (flat_map f xs) (flat_map f ys))
    (λ xs. IsPermutation-refl (flat_map f xs))
    (λ x xs ys h. IsPermutation-append_right (f x) _ _ h)
    (λ x y xs. rw (← append_assoc (f x), ← append_assoc (f y))
    (IsPermutation-append_left (flat_map f xs) _ _ (IsPermutation-append_comm (f x) (f y))))
    (λ xs ys zs. IsPermutation-trans _ _ _)

-- what all items of a list keep, all of its permutation keep
pub all-moved : {A : Type 0} (P : A → Type 0) (xs ys : List A) → IsPermutation xs ys → AllByRecursion P xs → AllByRecursion P ys
all-moved P xs ys p h = recursion_from_All P ys (All-permutation P xs ys p (All-from_recursion P xs h))

-- what all items of two joined lists keep, all of each keep
pub all-parts : {A : Type 0} (P : A → Type 0) (xs ys : List A) → AllByRecursion P (xs ++ ys) → AllByRecursion P xs × AllByRecursion P ys
all-parts P [] ys h = (tt, h)
all-parts P (x ∷ xs) ys h = let rest = all-parts P xs ys h.1 in ((h.0, rest.0), rest.1)

-- what all items keep of what is made of each, all that is made keeps
pub all-flat : {A B : Type 0} (P : B → Type 0) (f : A → List B) (xs : List A)
    → AllByRecursion (λ x. AllByRecursion P (f x)) xs → AllByRecursion P (flat_map f xs)
all-flat P f [] h = tt
all-flat P f (x ∷ xs) h = all-two P (f x) (flat_map f xs) h.0 (all-flat P f xs h.1)
