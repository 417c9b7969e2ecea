-- Something of each item, and items by their places.
use Rattle.std.proofs.Common.{◌≡◌, ℕ, suc, ◌+◌, true, List, [], ◌∷◌, length, drop, get_or, Some, ◌∙◌, ap, subst, arith, zero, ◌<◌, Bool}
use Rattle.std.specs.Prelude.{Option}
use Rattle.std.specs.List.{list_all, AllZip, range_with_len, zip}
use Rattle.std.proofs.lemmas.Bool.{and_parts}
use Rattle.std.proofs.lemmas.Option.{same_Some}
use Rattle.col_common.specs.Reading.{◌>>=◌}
use Rattle.col_model.specs.File.{for_each}
use Rattle.col_model.proofs.DecodedNumbers.{step-of}

-- ---- something of each item

-- what is given of each item, given of all
pub each-some : {A B : Type 0} (f : A → Option B) (xs : List A) (ys : List B) → for_each f xs ≡ Some ys
    → AllZip (λ x y. f x ≡ Some y) xs ys
each-some f [] ys e = subst (AllZip (λ x y. f x ≡ Some y) []) (same_Some [] ys e) tt
each-some f (x ∷ xs) ys e =
    let a = step-of (f x) (λ y. for_each f xs >>= λ ys. Some (y ∷ ys)) ys e in
    let b = step-of (for_each f xs) (λ ys. Some (a.x ∷ ys)) ys a.rest in
    subst (AllZip (λ x y. f x ≡ Some y) (x ∷ xs)) (same_Some (a.x ∷ b.x) ys b.rest) (a.first, each-some f xs b.x b.first)

-- and the other way round, one more in front
pub some-more : {A B : Type 0} (f : A → Option B) (x : A) (y : B) (xs : List A) (ys : List B) → f x ≡ Some y
    → for_each f xs ≡ Some ys → for_each f (x ∷ xs) ≡ Some (y ∷ ys)
some-more f x y xs ys e h =
    ap (λ o. o >>= λ y. for_each f xs >>= λ ys. Some (y ∷ ys)) e ∙ ap (λ o. o >>= λ ys. Some (y ∷ ys)) h

-- ---- places

-- the item in front of what is left, and what is left behind it
pub drop-step : {A : Type 0} (a : ℕ) (xs : List A) (y : A) (ys : List A) (d : A) → drop a xs ≡ y ∷ ys
    → (get_or xs a d ≡ y) × (drop (a + 1) xs ≡ ys)
drop-step zero [] y ys d e = absurd (cc e)
drop-step zero (x ∷ xs) y ys d e = (ap (λ l. get_or l 0 d) e, ap (drop 1) e)
drop-step (suc a) [] y ys d e = absurd (cc e)
drop-step (suc a) (x ∷ xs) y ys d e =
    let later = drop-step a xs y ys d e in
    let step : suc a + 1 ≡ suc (a + 1) = omega arith in
    (later.0, ap (λ n. drop n (x ∷ xs)) step ∙ later.1)

-- a test of numbered items, at a place
pub numbered-at : {A : Type 0} (test : ℕ × A → Bool) (a : ℕ) (xs : List A) (k : ℕ) (d : A)
    → list_all test (zip (range_with_len a (length xs)) xs) ≡ true → k < length xs → test (a + k, get_or xs k d) ≡ true
numbered-at test a [] k d e h = absurd (omega arith)
numbered-at test a (x ∷ xs) zero d e h =
    let step : a ≡ a + 0 = omega arith in
    subst (λ n. test (n, x) ≡ true) step (and_parts (test (a, x)) _ e).0
numbered-at test a (x ∷ xs) (suc k) d e h =
    let step : a + 1 + k ≡ a + suc k = omega arith in
    subst (λ n. test (n, get_or xs k d) ≡ true) step
    (numbered-at test (a + 1) xs k d (and_parts (test (a, x)) _ e).1 (omega arith))

-- a relation of items side by side, at a place
pub zip-at : {A B : Type 0} (R : A → B → Type 0) (xs : List A) (ys : List B) (k : ℕ) (d : A) (e : B) → AllZip R xs ys
    → k < length xs → R (get_or xs k d) (get_or ys k e)
zip-at R [] ys k d e all h = absurd (omega arith)
zip-at R (x ∷ xs) [] k d e all h = absurd all
zip-at R (x ∷ xs) (y ∷ ys) zero d e all h = all.0
zip-at R (x ∷ xs) (y ∷ ys) (suc k) d e all h = zip-at R xs ys k d e all.1 (omega arith)
