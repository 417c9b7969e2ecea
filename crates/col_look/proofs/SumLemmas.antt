-- Sums of how many items stand at each place.
use Rattle.std.proofs.Common.{◌≡◌, ℕ, zero, suc, ◌+◌, ◌<◌, ◌≤◌, ◌==◌, Bool, true, false, cond, List, [], ◌∷◌, length, sum, get_or, refl, ◌∙◌, ap, arith}
use Rattle.std.specs.List.{AllByRecursion, count_by, sum_by, range_with_len}
use Rattle.std.proofs.lemmas.Bool.{eqb-true, eqb-false, ne_eqb}
use Rattle.std.proofs.lemmas.List.Sums.{sum_by-cons}
use Rattle.col_model.proofs.ListLaws.{sum-cons}

sum-zero : (at m : ℕ) → sum_by (λ (i : ℕ). 0) (range_with_len at m) ≡ 0
sum-zero at zero = refl
sum-zero at (suc m) =
    let step = sum_by-cons (λ (i : ℕ). 0) at (range_with_len (at + 1) m) in
    omega (arith, step, sum-zero (at + 1) m)

sum-both : (f g : ℕ → ℕ) (xs : List ℕ) → sum_by (λ i. f i + g i) xs ≡ sum_by f xs + sum_by g xs
sum-both f g [] = refl
sum-both f g (x ∷ xs) =
    let both = sum_by-cons (λ i. f i + g i) x xs in
    omega (arith, both, sum_by-cons f x xs, sum_by-cons g x xs, sum-both f g xs)

before-none : (n at m : ℕ) → n < at → sum_by (λ i. cond (n == i) 1 0) (range_with_len at m) ≡ 0
before-none n at zero h = refl
before-none n at (suc m) h =
    let step = sum_by-cons (λ (i : ℕ). cond (n == i) 1 0) at (range_with_len (at + 1) m) in
    let apart : ◌≡◌ {A = ℕ} (cond (n == at) 1 0) 0 = ap (λ b. cond b 1 0) (ne_eqb n at (λ e. omega (arith, e, h))) in
    omega (arith, step, apart, before-none n (at + 1) m (omega (arith, h)))

one-place : (n at m : ℕ) → at ≤ n → n < at + m → sum_by (λ i. cond (n == i) 1 0) (range_with_len at m) ≡ 1
one-place n at zero h l = absurd (omega (arith, h, l))
one-place n at (suc m) h l = go (n == at) refl (λ less. one-place n (at + 1) m less (omega (arith, l)))
  where
    step : sum_by (λ i. cond (n == i) 1 0) (range_with_len at (suc m))
        ≡ cond (n == at) 1 0 + sum_by (λ i. cond (n == i) 1 0) (range_with_len (at + 1) m)
    step = sum_by-cons (λ (i : ℕ). cond (n == i) 1 0) at (range_with_len (at + 1) m)

    go : (b : Bool) → (n == at) ≡ b
        → (at + 1 ≤ n → sum_by (λ i. cond (n == i) 1 0) (range_with_len (at + 1) m) ≡ 1)
        → sum_by (λ i. cond (n == i) 1 0) (range_with_len at (suc m)) ≡ 1
    go true e later =
        let here : n ≡ at = eqb-true n at e in
        let own : ◌≡◌ {A = ℕ} (cond (n == at) 1 0) 1 = ap (λ b. cond b 1 0) e in
        omega (arith, step, own, before-none n (at + 1) m (omega (arith, here)))
    go false e later =
        let apart : n ≡ at → ⊥ = eqb-false n at e in
        let own : ◌≡◌ {A = ℕ} (cond (n == at) 1 0) 0 = ap (λ b. cond b 1 0) e in
        omega (arith, step, own, later (omega (arith, h, apart)))

-- the counts of all places sum up to the number of items
pub places-sum : {A : Type 0} (f : A → ℕ) (xs : List A) (m : ℕ) → AllByRecursion (λ x. f x < m) xs
    → sum_by (λ i. count_by (λ x. f x == i) xs) (range_with_len 0 m) ≡ length xs
places-sum f [] m all = sum-zero 0 m
places-sum {A = A} f (x ∷ xs) m all =
    let own : ℕ → ℕ = λ i. cond (f x == i) 1 0 in
    let rest : ℕ → ℕ = λ i. count_by (λ y. f y == i) xs in
    let step : sum_by (λ i. count_by (λ y. f y == i) (x ∷ xs)) (range_with_len 0 m) ≡ sum_by (λ i. own i + rest i) (range_with_len 0 m) =
    ap (λ (g : ℕ → ℕ). sum_by g (range_with_len 0 m)) (λ j i. sum_by-cons (λ (y : A). cond (f y == i) 1 0) x xs j) in
    omega (
      arith,
      step,
      sum-both own rest (range_with_len 0 m),
      one-place (f x) 0 m (omega arith) (omega (arith, all.0)),
      places-sum f xs m all.1,
    )

-- numbers that are told by their places sum up as these do
pub sum-told : (g : ℕ → ℕ) (at : ℕ) (ns : List ℕ) → ((i : ℕ) → i < length ns → get_or ns i 0 ≡ g (at + i))
    → sum ns ≡ sum_by g (range_with_len at (length ns))
sum-told g at [] told = refl
sum-told g at (n ∷ ns) told =
    let here : at + 0 ≡ at = omega arith in
    let head : n ≡ g at = told 0 (omega arith) ∙ ap g here in
    let rest = sum-told g (at + 1) ns (λ i l. told (suc i) (omega (arith, l)) ∙ ap g (further i)) in
    omega (arith, sum-cons n ns, sum_by-cons g at (range_with_len (at + 1) (length ns)), head, rest)
  where
    further : (i : ℕ) → at + suc i ≡ at + 1 + i
    further i = omega arith
