-- Lists without their last item.
use Rattle.std.proofs.Common.{◌≡◌, ◌<◌, ℕ, zero, suc, ◌+◌, ◌-◌, List, [], ◌∷◌, ◌++◌, length, take, Bool, true, false, Option, Some, None, refl, sym, ◌∙◌, ap, arith, length-append, append-nil}
use Rattle.std.specs.Prelude.{nat_le, not, is_some, MatchOption, option_to_list}
use Rattle.std.specs.List.{range_with_len}
use Rattle.std.proofs.lemmas.Bool.{and_parts, and_from}
use Rattle.col_common.specs.Ascending.{is_never_falling}
use Rattle.col_model.proofs.ListLaws.{range-more}
use Rattle.col_writer_rows.specs.Documents.{dense_then, IsCut}
use Rattle.col_writer_rows.proofs.DocumentLemmas.{dense_then-push}

-- what stands before the last item
pub before_last : {A : Type 0} (xs : List A) (x : A) → take (length (xs ++ x ∷ []) - 1) (xs ++ x ∷ []) ≡ xs
before_last [] x = refl
before_last (y ∷ xs) x =
    let k : length (y ∷ xs ++ x ∷ []) - 1 ≡ suc (length (xs ++ x ∷ []) - 1) = omega (arith, length-append xs (x ∷ [])) in
    ap (λ n. take n (y ∷ xs ++ x ∷ [])) k ∙ ap (λ r. y ∷ r) (before_last xs x)

-- lists that are the same have the same front
pub front_same : {A : Type 0} (xs ys : List A) (x y : A) → xs ++ x ∷ [] ≡ ys ++ y ∷ [] → xs ≡ ys
front_same xs ys x y e = sym (before_last xs x) ∙ ap (λ r. take (length r - 1) r) e ∙ before_last ys y

-- a list with an item at its end is cut to what stands before it
pub cut_of : {A : Type 0} (now left : List A) (x : A) → now ≡ left ++ x ∷ [] → IsCut now left
unfolding IsCut
cut_of now left x e xs y f = front_same left xs x y (sym e ∙ f)

-- a list that never falls never falls without its last item
pub never_falling-cut : (xs : List ℕ) (x : ℕ) → is_never_falling (xs ++ x ∷ []) ≡ true → is_never_falling xs ≡ true
never_falling-cut [] x h = refl
never_falling-cut (y ∷ []) x h = refl
never_falling-cut (y ∷ z ∷ zs) x h =
    let parts = and_parts (nat_le y z) (is_never_falling (z ∷ zs ++ x ∷ [])) h in
    and_from (nat_le y z) (is_never_falling (z ∷ zs)) parts.0 (never_falling-cut (z ∷ zs) x parts.1)

-- documents without their last one, where none stands behind the first ones
pub dense-cut : (n : ℕ) (others left docs : List ℕ) (r : Option ℕ) (b : Bool) → dense_then n others ≡ docs
    → others ≡ left ++ option_to_list r → is_some r ≡ not b → b ≡ true → (m w : ℕ) → m ≡ length others
    → MatchOption r ((m ≡ 0) × (w ≡ 0)) (λ _. w + 1 ≡ m) → 0 < length docs
    → (x : ℕ) × (0 < n) × (docs ≡ dense_then (n - 1) left ++ x ∷ [])
unfolding dense_then
dense-cut n others left docs (Some x) b is cut e f m w many cases some = absurd (grind arith)
dense-cut n [] (y ∷ left) docs None b is cut e f m w many cases some = absurd (grind arith)
dense-cut n (y ∷ others) left docs None b is cut e f m w many cases some = let z = cases.0 in absurd (omega arith)
dense-cut zero [] [] docs None b is cut e f m w many cases some = let long : length docs ≡ 0 = sym (ap length is) in absurd (omega arith)
dense-cut (suc n) [] [] docs None b is cut e f m w many cases some =
    let less : suc n - 1 ≡ n = omega arith in
    let one : suc n ≡ n + 1 = omega arith in (
      0 + n,
      omega arith,
      sym is ∙ append-nil _ ∙ ap (range_with_len 0) one ∙ range-more 0 n
          ∙ ap (λ k. range_with_len 0 k ++ (0 + n) ∷ []) (sym less)
          ∙ ap (λ r. r ++ (0 + n) ∷ []) (sym (append-nil (range_with_len 0 (suc n - 1)))),
    )

-- the same where some does
pub others-cut : (n : ℕ) (others left docs : List ℕ) (r : Option ℕ) (b : Bool) → dense_then n others ≡ docs
    → others ≡ left ++ option_to_list r → is_some r ≡ not b → b ≡ false
    → (x : ℕ) × (docs ≡ dense_then n left ++ x ∷ [])
others-cut n others left docs None b is cut e f = absurd (grind arith)
others-cut n others left docs (Some x) b is cut e f =
    (x, sym is ∙ ap (dense_then n) cut ∙ dense_then-push n left (dense_then n left) x refl)
