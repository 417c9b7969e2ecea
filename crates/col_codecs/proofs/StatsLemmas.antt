-- Statistics of a list that grows by one number.
use Rattle.std.proofs.Common.{◌≡◌, ℕ, ◌+◌, ◌-◌, ◌%◌, ◌<◌, min, max, List, [], ◌∷◌, ◌++◌, length, map, refl, sym, ◌∙◌, ap, arith, length-append, append_assoc}
use Rattle.std.specs.Int.{abs_diff}
use Rattle.std.proofs.lemmas.List.Sums.{fold_push}
use Rattle.std.proofs.lemmas.Nat.Gcd.{dvd_refl, IsGcd-swap, IsGcd-from_mod, same_from_IsGcd}
use native.Mathlib.Nat.{one-dvd}
use Rattle.col_common.specs.VInt.{vint_bytes}
use Rattle.col_model.specs.Stats.{gcd, gcd_of, least_of, greatest_of, at_least_one, stats_of, stats_bytes, steps_of}
use Rattle.col_model.proofs.StatsLaws.{IsGcd-gcd}
use Rattle.col_model.proofs.CollectLaws.{gcd_of-push}
use Rattle.col_codecs.specs.ColumnStats.{Collected, collected_of, stats_seen}
use Rattle.col_codecs.specs.declared.column_stats.ColumnStats.{ColumnStats}

-- one step by a remainder
pub gcd-step : (a b : ℕ) → 0 < b → gcd b (a % b) ≡ gcd a b
gcd-step a b p = same_from_IsGcd a b (gcd b (a % b)) (gcd a b) (IsGcd-from_mod a b (gcd b (a % b)) (IsGcd-gcd b (a % b))) (IsGcd-gcd a b)

-- the greatest common divisor of two numbers is that of the two turned round
pub gcd-swap : (a b : ℕ) → gcd a b ≡ gcd b a
gcd-swap a b = same_from_IsGcd a b (gcd a b) (gcd b a) (IsGcd-gcd a b) (IsGcd-swap b a (gcd b a) (IsGcd-gcd b a))

-- nothing but 1 divides 1
pub gcd-one : (b : ℕ) → gcd 1 b ≡ 1
gcd-one b = same_from_IsGcd 1 b (gcd 1 b) 1 (IsGcd-gcd 1 b) (dvd_refl 1, one-dvd b, λ d p q. p)

same_collector : (a b c d e f : ℕ) (m n : ℕ) → a ≡ b → c ≡ d → e ≡ f → m ≡ n
    → let left : Collected = record { least = a; greatest = c; divisor = e; count = m } in let right : Collected =
    record { least = b; greatest = d; divisor = f; count = n } in left ≡ right
same_collector a b c d e f m n p q r s = cc

-- the first number
pub collected-first : (s : Collected) (xs : List ℕ) (x : ℕ) → s.count ≡ 0 → s ≡ collected_of xs
    → record s { least = x; greatest = x; count = s.count + 1 } ≡ collected_of (xs ++ x ∷ [])
unfolding collected_of
collected-first s [] x z e =
    let m : max 0 x ≡ x = omega arith in
    let d : x - x ≡ 0 = omega arith in
    rw (e, m, d) refl
collected-first s (y ∷ ys) x z e = absurd (let n : s.count ≡ length (y ∷ ys) = ap (λ c. c.count) e in omega arith)

-- another number
pub collected-more : (s : Collected) (xs : List ℕ) (x finer : ℕ) → 0 < s.count
    → finer ≡ gcd s.divisor (abs_diff x s.least) → s ≡ collected_of xs
    → record { least = min s.least x; greatest = max s.greatest x; divisor = finer; count = s.count + 1 }
    ≡ collected_of (xs ++ x ∷ [])
unfolding collected_of
collected-more s [] x finer p f e = absurd (let n : s.count ≡ 0 = ap (λ c. c.count) e in omega arith)
collected-more s (y ∷ ys) x finer p f e =
    let low : s.least ≡ least_of (y ∷ ys) = ap (λ c. c.least) e in
    let high : s.greatest ≡ greatest_of (y ∷ ys) = ap (λ c. c.greatest) e in
    let old : s.divisor ≡ gcd_of (map (λ z. z - least_of (y ∷ ys)) (y ∷ ys)) = ap (λ c. c.divisor) e in
    let count : s.count ≡ length (y ∷ ys) = ap (λ c. c.count) e in
    let long : length ((y ∷ ys) ++ x ∷ []) ≡ length (y ∷ ys) + 1 = length-append (y ∷ ys) (x ∷ []) in
    same_collector (min s.least x) (least_of ((y ∷ ys) ++ x ∷ [])) (max s.greatest x)
    (greatest_of ((y ∷ ys) ++ x ∷ [])) finer
    (gcd_of (map (λ z. z - least_of ((y ∷ ys) ++ x ∷ [])) ((y ∷ ys) ++ x ∷ []))) (s.count + 1)
    (length ((y ∷ ys) ++ x ∷ []))
    (ap (λ k. min k x) low ∙ sym (fold_push min y ys x))
    (ap (λ k. max k x) high ∙ sym (fold_push max 0 (y ∷ ys) x))
    (f ∙ ap (λ k. gcd k (abs_diff x s.least)) old
    ∙ ap (λ k. gcd (gcd_of (map (λ z. z - least_of (y ∷ ys)) (y ∷ ys))) (abs_diff x k)) low
    ∙ sym (gcd_of-push y ys x))
    (omega arith)

-- another number, where the divisor is 1
pub collected-widened : (s : Collected) (xs : List ℕ) (x low high : ℕ) → s.divisor ≡ 1 → low ≡ min s.least x
    → high ≡ max s.greatest x → s ≡ collected_of xs
    → record { least = low; greatest = high; divisor = s.divisor; count = s.count + 1 }
    ≡ collected_of (xs ++ x ∷ [])
unfolding collected_of
collected-widened s [] x low high f p q e = absurd (let n : s.divisor ≡ 0 = ap (λ c. c.divisor) e in omega arith)
collected-widened s (y ∷ ys) x low high f p q e =
    let some : s.count ≡ length (y ∷ ys) = ap (λ c. c.count) e in
    let same : s.divisor ≡ gcd s.divisor (abs_diff x s.least) = rw f (sym (gcd-one (abs_diff x s.least))) in
    rw (p, q) (collected-more s (y ∷ ys) x s.divisor (omega arith) same e)

-- what is collected of a list counts its items
pub collected-count : (s : Collected) (xs : List ℕ) → s ≡ collected_of xs → s.count ≡ length xs
unfolding collected_of
collected-count s xs e = ap (λ c. c.count) e

-- the statistics of what was collected
pub stats_of-collected : (s : Collected) (xs : List ℕ) (d : ℕ) → d ≡ max s.divisor 1 → s ≡ collected_of xs
    → record { least = s.least; greatest = s.greatest; divisor = d; count = s.count } ≡ stats_of xs
unfolding collected_of stats_of
stats_of-collected s xs d p e =
    let low = least_of xs in
    let one : max (gcd_of (map (λ x. x - low) xs)) 1 ≡ at_least_one (gcd_of (map (λ x. x - low) xs)) = omega arith in
    rw (p, e, one) refl

-- ---- the bytes

-- two numbers and two numbers
pub stats_bytes-pairs : (s : ColumnStats) (steps count : ℕ) → steps ≡ steps_of (stats_seen s) → count ≡ s.num_rows
    → (vint_bytes s.min_value ++ vint_bytes s.gcd) ++ (vint_bytes steps ++ vint_bytes count)
    ≡ stats_bytes (stats_seen s)
stats_bytes-pairs s steps count p q =
    ap (λ k. (vint_bytes s.min_value ++ vint_bytes s.gcd) ++ (vint_bytes k ++ vint_bytes count)) p
    ∙ ap
    (λ k. (vint_bytes s.min_value ++ vint_bytes s.gcd) ++ (vint_bytes (steps_of (stats_seen s)) ++ vint_bytes k)) q
    ∙ append_assoc (vint_bytes s.min_value) (vint_bytes s.gcd) _
