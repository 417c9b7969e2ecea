-- What is given of each item of a list, item by item.
use Rattle.std.proofs.Common.{◌≡◌, ◌<◌, ℕ, zero, suc, List, [], ◌∷◌, ◌++◌, length, map, take, drop, get_or, Bool, true, Result, Ok, Err, refl, sym, ap, ◌∙◌, arith}
use Rattle.std.specs.List.{list_all}
use Rattle.std.proofs.Math.Seq.{drop-cons}
use Rattle.std.proofs.lemmas.Bool.{and_parts}
use Rattle.std.proofs.lemmas.List.{take-append-drop}
use Rattle.col_model.specs.Refusal.{Refusal, ◌>>=◌, each_ok}
use Rattle.col_model.proofs.RefusalLaws.{bind-ok, same_Ok}

-- a list is what stands before a place, the item there and what stands behind it
pub whole-at : {A : Type 0} (xs : List A) (i : ℕ) (d : A) → i < length xs → xs ≡ take i xs ++ get_or xs i d ∷ drop (suc i) xs
whole-at xs i d h = sym (take-append-drop i xs) ∙ ap (λ r. take i xs ++ r) (drop-cons xs i d h)

-- a step over the images of items is the step of both over the items
pub each-map : {A B C : Type 0} (f : B → Result C Refusal) (s : A → B) (xs : List A) → each_ok f (map s xs) ≡ each_ok (λ x. f (s x)) xs
each-map f s [] = refl
each-map f s (x ∷ xs) = ap (λ r. f (s x) >>= λ y. r >>= λ ys. Ok (y ∷ ys)) (each-map f s xs)

-- a list is refused for its first item that is
pub each-stopped :
    {A B : Type 0} (f : A → Result B Refusal) (xs : List A) (x : A) (rest : List A) (ys : List B) (r : Refusal)
    → each_ok f xs ≡ Ok ys → f x ≡ Err r → each_ok f (xs ++ x ∷ rest) ≡ Err r
each-stopped f [] x rest ys r e p = ap (λ o. o >>= λ y. each_ok f rest >>= λ zs. Ok (y ∷ zs)) p
each-stopped f (w ∷ xs) x rest ys r e p =
    let a = bind-ok (f w) (λ z. each_ok f xs >>= λ zs. Ok (z ∷ zs)) ys e in
    let b = bind-ok (each_ok f xs) (λ zs. Ok (a.0 ∷ zs)) ys a.2 in
    λ i. a.1 i >>= λ z. each-stopped f xs x rest b.0 r b.1 p i >>= λ zs. Ok (z ∷ zs)

-- there is one result for each item
pub each-length : {A B : Type 0} (f : A → Result B Refusal) (xs : List A) (ys : List B) → each_ok f xs ≡ Ok ys → length ys ≡ length xs
each-length f [] ys e = ap length (sym (same_Ok [] ys e))
each-length f (x ∷ xs) ys e =
    let a = bind-ok (f x) (λ z. each_ok f xs >>= λ zs. Ok (z ∷ zs)) ys e in
    let b = bind-ok (each_ok f xs) (λ zs. Ok (a.0 ∷ zs)) ys a.2 in
    ap length (sym (same_Ok (a.0 ∷ b.0) ys b.2)) ∙ ap suc (each-length f xs b.0 b.1)

-- the result at a place is that of the item there
pub each-at : {A B : Type 0} (f : A → Result B Refusal) (xs : List A) (ys : List B) (i : ℕ) (d : A) (g : B)
    → each_ok f xs ≡ Ok ys → i < length xs → f (get_or xs i d) ≡ Ok (get_or ys i g)
each-at {B = B} f [] ys i d g e h = absurd (omega arith)
each-at {B = B} f (x ∷ xs) ys i d g e h =
    let a = bind-ok (f x) (λ z. each_ok f xs >>= λ zs. Ok (z ∷ zs)) ys e in
    let b = bind-ok (each_ok f xs) (λ zs. Ok (a.0 ∷ zs)) ys a.2 in
    at i h a.0 b.0 a.1 b.1 (λ k zs q lt. each-at f xs zs k d g q lt) ∙ ap (λ zs. Ok (get_or zs i g)) (same_Ok (a.0 ∷ b.0) ys b.2)
  where
    at : (i : ℕ) → i < length (x ∷ xs) → (y : B) (zs : List B) → f x ≡ Ok y → each_ok f xs ≡ Ok zs
        → ((k : ℕ) (ws : List B) → each_ok f xs ≡ Ok ws → k < length xs → f (get_or xs k d) ≡ Ok (get_or ws k g))
        → f (get_or (x ∷ xs) i d) ≡ Ok (get_or (y ∷ zs) i g)
    at zero h y zs p q later = p
    at (suc i) h y zs p q later = later i zs q (omega arith)

-- a test that all items pass, the item at any place passes
pub all-at : {A : Type 0} (test : A → Bool) (xs : List A) (i : ℕ) (d : A) → list_all test xs ≡ true → i < length xs
    → test (get_or xs i d) ≡ true
all-at test [] i d e h = absurd (omega arith)
all-at test (x ∷ xs) zero d e h = (and_parts (test x) (list_all test xs) e).0
all-at test (x ∷ xs) (suc i) d e h = all-at test xs i d (and_parts (test x) (list_all test xs) e).1 (omega arith)
