-- Items that are among others, and places in lists of lists.
use Rattle.std.proofs.Common.{◌≡◌, ◌≢◌, ℕ, zero, suc, nat_lt, List, [], ◌∷◌, ◌++◌, map, length, set, is_some, Some, slice_get, refl, sym, ap, ◌∙◌, subst, inl, inr, arith}
use Rattle.std.specs.List.{AllByRecursion}
use Rattle.std.proofs.lemmas.Bool.{lt-ltb, le-ltb}
use Rattle.std.proofs.lemmas.Bool.Decides.{nat_tests}
use Rattle.col_merge_texts.specs.Items.{item_at, IsAmong}

-- ---- one of the items

-- what all items keep, one among them keeps
pub in-all : {X : Type 0} (P : X → Type 0) (x : X) (xs : List X) → IsAmong x xs → AllByRecursion P xs → P x
in-all P x [] i h = absurd i
in-all P x (y ∷ ys) i h = elim i [ inl e ↦ subst P (sym e) h.0 | inr rest ↦ in-all P x ys rest h.1 ]

-- what each one among the items keeps, all keep
pub all-in : {X : Type 0} (P : X → Type 0) (xs : List X) → ((x : X) → IsAmong x xs → P x) → AllByRecursion P xs
all-in P [] f = tt
all-in P (x ∷ xs) f = (f x (inl refl), all-in P xs (λ y i. f y (inr i)))

-- an item of the first of two lists is one of both joined
pub in-left : {X : Type 0} (x : X) (xs ys : List X) → IsAmong x xs → IsAmong x (xs ++ ys)
in-left x [] ys i = absurd i
in-left x (z ∷ xs) ys i = elim i [ inl e ↦ inl e | inr rest ↦ inr (in-left x xs ys rest) ]

-- an item of the second of two lists is one of both joined
pub in-right : {X : Type 0} (x : X) (xs ys : List X) → IsAmong x ys → IsAmong x (xs ++ ys)
in-right x [] ys i = i
in-right x (z ∷ xs) ys i = inr (in-right x xs ys i)

-- the image of an item is one of the images
pub in-map : {X Y : Type 0} (f : X → Y) (x : X) (xs : List X) → IsAmong x xs → IsAmong (f x) (map f xs)
in-map f x [] i = absurd i
in-map f x (y ∷ ys) i = elim i [ inl e ↦ inl (ap f e) | inr rest ↦ inr (in-map f x ys rest) ]

-- ---- where items are

-- exactly below a list's length an item is there
some-below : {X : Type 0} (xs : List X) (j : ℕ) → is_some (slice_get xs j) ≡ nat_lt j (length xs)
some-below [] j = sym (le-ltb j 0 (omega arith))
some-below (x ∷ xs) zero = sym (lt-ltb 0 (suc (length xs)) (omega arith))
some-below (x ∷ xs) (suc j) =
    let shifted : nat_lt j (length xs) ≡ nat_lt (suc j) (suc (length xs)) = grind (arith, nat_tests) in
    some-below xs j ∙ shifted

-- lists of the same lengths have items at the same places
pub some-same : {X Y : Type 0} (m : List (List X)) (n : List (List Y)) → map length n ≡ map length m → (i j : ℕ)
    → is_some (item_at n (i, j)) ≡ is_some (item_at m (i, j))
some-same [] [] e i j = refl
some-same [] (y ∷ n) e i j = cc
some-same (x ∷ m) [] e i j = cc
some-same (x ∷ m) (y ∷ n) e zero j = let same : length y ≡ length x = cc in some-below y j ∙ ap (nat_lt j) same ∙ sym (some-below x j)
some-same (x ∷ m) (y ∷ n) e (suc i) j = let tail : map length n ≡ map length m = cc in some-same m n tail i j

-- ---- one item is set

-- a place that is there holds what it was set to
pub get-set-same : {X : Type 0} (xs : List X) (i : ℕ) (w v : X) → slice_get xs i ≡ Some v → slice_get (set xs i w) i ≡ Some w
get-set-same [] i w v e = cc
get-set-same (x ∷ xs) zero w v e = refl
get-set-same (x ∷ xs) (suc i) w v e = get-set-same xs i w v e

-- places other than the one that was set hold what they held
pub get-set-other : {X : Type 0} (xs : List X) (i k : ℕ) (w : X) → k ≢ i → slice_get (set xs i w) k ≡ slice_get xs k
get-set-other [] i k w ne = refl
get-set-other (x ∷ xs) zero zero w ne = absurd (ne refl)
get-set-other (x ∷ xs) zero (suc k) w ne = refl
get-set-other (x ∷ xs) (suc i) zero w ne = refl
get-set-other (x ∷ xs) (suc i) (suc k) w ne = get-set-other xs i k w (λ e. ne (ap suc e))
