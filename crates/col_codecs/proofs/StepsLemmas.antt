-- The statistics of a list whose items lie some steps above a number, and those of the steps.
use Rattle.std.proofs.Common.{◌≡◌, ℕ, ◌+◌, ◌-◌, ◌*◌, ◌/◌, ◌<◌, ◌≤◌, ◌==◌, ◌&&◌, inl, inr, min, max, Bool, true, false, List, [], ◌∷◌, length, map, fold, refl, sym, ◌∙◌, ap, arith, subst, mul-le-mul_left, div-le_self}
use Rattle.std.specs.List.{AllByRecursion}
use Rattle.std.specs.Int.{◌∣◌}
use Rattle.std.proofs.lemmas.List.{length-map}
use Rattle.std.proofs.lemmas.Bool.{cases_eq, cases_lt, eq-eqb, ne_eqb, and_from, and_parts, eqb-true}
use Rattle.std.proofs.lemmas.Nat.Gcd.{dvd_trans, dvd_antisymm}
use Rattle.std.proofs.Math.Nat.{mul-sub, mul-dvd-mul_left, dvd_of_mul-dvd-mul_left, dvd-mul_right, mul-div_cancel', eq_of_mul-eq-mul_left, eq-zero_of_zero-dvd, mul-zero, mul-one, one-mul, mul-pos}
use Rattle.col_model.specs.Stats.{Stats, stats_of, same_stats, steps_of, gcd_of, least_of, greatest_of, at_least_one}
use Rattle.col_model.proofs.StatsLaws.{all_by, all_mapped, mapped_all, map-map, fold-gcd, fold-max-one, zeros-gcd, least_of-all}
use Rattle.col_model.proofs.CollectLaws.{divides-gcd_of}
use Rattle.col_codecs.specs.ColumnStats.{IsPossible}

map_alike : (f g : ℕ → ℕ) → ((x : ℕ) → f x ≡ g x) → (xs : List ℕ) → map f xs ≡ map g xs
map_alike f g e [] = refl
map_alike f g e (x ∷ xs) = rw (e x) (ap (λ ys. g x ∷ ys) (map_alike f g e xs))

-- multiples have a multiple of the divisor
gcd_of-scaled : (d : ℕ) (js : List ℕ) → 0 < d → gcd_of (map (λ j. d * j) js) ≡ d * gcd_of js
gcd_of-scaled d js p =
    let scaled = map (λ j. d * j) js in
    let g = gcd_of js in
    let h = gcd_of scaled in
    let q = h / d in
    let lower : d * g ∣ h = divides-gcd_of (d * g) scaled (mapped_all (λ x. d * g ∣ x) (λ j. d * j) js
    (all_by (λ j r. mul-dvd-mul_left g d r) js (fold-gcd 0 js).1)) in
    let whole : d ∣ h = dvd_trans d (dvd-mul_right d g) lower in
    let back : d * q ≡ h = mul-div_cancel' d whole in
    let each : AllByRecursion (λ j. h ∣ d * j) js = all_mapped (λ x. h ∣ x) (λ j. d * j) js (fold-gcd 0 scaled).1 in
    let inner : AllByRecursion (λ j. q ∣ j) js = all_by
    (λ j r. dvd_of_mul-dvd-mul_left q p (subst (λ k. k ∣ d * j) (sym back) r)) js each in
    let upper : h ∣ d * g = subst (λ k. k ∣ d * g) back (mul-dvd-mul_left q d (divides-gcd_of q js inner)) in
    dvd_antisymm upper lower

-- two tests that hold together
same_tests : (a b c e : ℕ) → (a ≡ b → c ≡ e) → (c ≡ e → a ≡ b) → (a == b) ≡ (c == e)
same_tests a b c e to from =
    elim (cases_eq a b) [
      | inl h ↦ eq-eqb a b h ∙ sym (eq-eqb c e (to h))
      | inr h ↦ ne_eqb a b h ∙ sym (ne_eqb c e (λ k. h (from k)))
    ]

-- a second test matters where the first one holds
and-when : (a b c : Bool) → (a ≡ true → b ≡ c) → (a && b) ≡ (a && c)
and-when true b c e = e refl
and-when false b c e = refl

module _ (l d : ℕ) (p : 0 < d) where
  -- the item of a step
  abbrev stepped : ℕ → ℕ
  stepped k = l + d * k

  min-stepped : (a b : ℕ) → min (stepped a) (stepped b) ≡ stepped (min a b)
  min-stepped a b =
      elim (cases_lt a b) [
        | inl h ↦ (let low : min a b ≡ a = omega arith in let le : d * a ≤ d * b = mul-le-mul_left d (omega arith) in
            rw low (omega (arith, le)))
        | inr h ↦ (let low : min a b ≡ b = omega arith in let le : d * b ≤ d * a = mul-le-mul_left d h in rw low (omega (arith, le)))
      ]

  max-stepped : (a b : ℕ) → max (stepped a) (stepped b) ≡ stepped (max a b)
  max-stepped a b =
      elim (cases_lt a b) [
        | inl h ↦ (let high : max a b ≡ b = omega arith in let le : d * a ≤ d * b = mul-le-mul_left d (omega arith) in
            rw high (omega (arith, le)))
        | inr h ↦ (let high : max a b ≡ a = omega arith in let le : d * b ≤ d * a = mul-le-mul_left d h in rw high (omega (arith, le)))
      ]

  fold-min-stepped : (a : ℕ) (ks : List ℕ) → fold min (stepped a) (map stepped ks) ≡ stepped (fold min a ks)
  fold-min-stepped a [] = refl
  fold-min-stepped a (k ∷ ks) = ap (λ m. fold min m (map stepped ks)) (min-stepped a k) ∙ fold-min-stepped (min a k) ks

  fold-max-stepped : (a : ℕ) (ks : List ℕ) → fold max (stepped a) (map stepped ks) ≡ stepped (fold max a ks)
  fold-max-stepped a [] = refl
  fold-max-stepped a (k ∷ ks) = ap (λ m. fold max m (map stepped ks)) (max-stepped a k) ∙ fold-max-stepped (max a k) ks

  greatest-stepped : (k : ℕ) (ks : List ℕ) → greatest_of (map stepped (k ∷ ks)) ≡ stepped (greatest_of (k ∷ ks))
  greatest-stepped k ks =
      let item : max 0 (stepped k) ≡ stepped k = omega arith in
      let step : k ≡ max 0 k = omega arith in
      ap (λ m. fold max m (map stepped ks)) (item ∙ ap stepped step) ∙ fold-max-stepped (max 0 k) ks

  spans-stepped : (low : ℕ) (ks : List ℕ) → map (λ x. x - stepped low) (map stepped ks) ≡ map (λ j. d * j) (map (λ k. k - low) ks)
  spans-stepped low ks =
      map-map stepped (λ x. x - stepped low) ks
      ∙ map_alike (λ k. stepped k - stepped low) (λ k. d * (k - low)) (λ k. omega (arith, mul-sub d k low)) ks
      ∙ sym (map-map (λ k. k - low) (λ j. d * j) ks)

  divisor-stepped : (low : ℕ) (ks : List ℕ) → gcd_of (map (λ x. x - stepped low) (map stepped ks)) ≡ d * gcd_of (map (λ k. k - low) ks)
  divisor-stepped low ks = ap gcd_of (spans-stepped low ks) ∙ gcd_of-scaled d (map (λ k. k - low) ks) p

-- ---- the test of both statistics

-- where the divisor is 0, no item lies above the number
flat-bound : (low : ℕ) (ks : List ℕ) → gcd_of (map (λ k. k - low) ks) ≡ 0 → greatest_of ks ≤ low
flat-bound low ks e =
    let js = map (λ k. k - low) ks in
    let zeros : AllByRecursion (λ j. j ≡ 0) js = all_by (λ j r. eq-zero_of_zero-dvd (subst (λ g. g ∣ j) e r)) js (fold-gcd 0 js).1 in
    fold-max-one (λ k. k ≤ low) 0 ks (omega arith) (all_by (λ k r. omega (arith, r)) ks (all_mapped (λ j. j ≡ 0) (λ k. k - low) ks zeros))

-- the divisor of the items is d where that of the steps is 1
same-divisor : (d n lo hi g : ℕ) → 0 < d → (n ≡ 0 → d ≡ 1) → (g ≡ 0 → hi ≤ lo) → lo ≡ 0 → hi ≡ n
    → (at_least_one (d * g) == d) ≡ (at_least_one g == 1)
same-divisor d n lo hi g p flat bound zero_lo top =
    elim (cases_eq n 0) [
      | inl z ↦ ap (λ k. at_least_one (k * g) == k) (flat z) ∙ ap (λ m. at_least_one m == 1) (one-mul g)
      | inr z ↦
          let some : 0 < g = elim (cases_eq g 0) [ inl h ↦ absurd (let low = bound h in omega arith) | inr h ↦ omega (arith, h) ] in
          let product : 0 < d * g = mul-pos p some in
          same_tests (at_least_one (d * g)) d (at_least_one g) 1
          (λ e. let same : d * g ≡ d * 1 = omega (arith, e, product, mul-one d) in let one = eq_of_mul-eq-mul_left d
          p g 1 same in omega (arith, one))
          (λ e. let one : g ≡ 1 = omega (arith, e, some) in let same : d * g ≡ d * 1 = ap (λ k. d * k) one in omega
          (arith, same, product, mul-one d))
    ]

-- the statistics of the steps of a list with these
abbrev pub steps_stats : Stats → Stats
steps_stats s = record { least = 0; greatest = steps_of s; divisor = 1; count = s.count }

-- Possible statistics are a list's where its steps begin with 0, end with their count, and have the divisor 1.
pub same_stats-stepped : (s : Stats) (ks : List ℕ) → IsPossible s → length ks ≡ s.count
    → same_stats (stats_of (map (λ k. s.least + s.divisor * k) ks)) s ≡ same_stats (stats_of ks) (steps_stats s)
unfolding stats_of
same_stats-stepped s [] h e =
    let top : s.greatest ≡ 0 = h.empty (sym e) in
    let low : s.least ≡ 0 = omega (arith, top, h.ordered) in
    let one : s.divisor ≡ 1 = h.flat (omega (arith, top)) in
    let none : steps_of s ≡ 0 = omega (arith, div-le_self (s.greatest - s.least) s.divisor, top) in
    and_from _ _ (and_from _ _ (and_from _ _ (eq-eqb 0 s.least (sym low)) (eq-eqb 0 s.greatest (sym top)))
    (eq-eqb 1 s.divisor (sym one))) (eq-eqb 0 s.count e)
    ∙ sym (and_from _ _ (and_from _ _ (and_from _ _ refl (eq-eqb 0 (steps_of s) (sym none))) refl) (eq-eqb 0 s.count e))
same_stats-stepped s (k ∷ ks) h e =
    let l = s.least in
    let d = s.divisor in
    let n = steps_of s in
    let p : 0 < d = h.positive in
    let xs = map (λ k. l + d * k) (k ∷ ks) in
    let lo = least_of (k ∷ ks) in
    let hi = greatest_of (k ∷ ks) in
    let g = gcd_of (map (λ k. k - lo) (k ∷ ks)) in
    let top : l + d * n ≡ s.greatest = h.top in
    let low : least_of xs ≡ l + d * lo = fold-min-stepped l d p k ks in
    let high : greatest_of xs ≡ l + d * hi = greatest-stepped l d p k ks in
    let divisor : gcd_of (map (λ x. x - least_of xs) xs) ≡ d * g =
    ap (λ m. gcd_of (map (λ x. x - m) xs)) low ∙ divisor-stepped l d p lo (k ∷ ks) in
    let flat : n ≡ 0 → d ≡ 1 = λ z. h.flat (let none : d * n ≡ d * 0 = ap (λ m. d * m) z in omega (arith, none, mul-zero d, top)) in
    let first : (least_of xs == l) ≡ (lo == 0) =
    ap (λ m. m == l) low ∙ same_tests (l + d * lo) l lo 0
    (λ q. let none : d * lo ≡ d * 0 = omega (arith, q, mul-zero d) in eq_of_mul-eq-mul_left d p lo 0 none)
    (λ q. let none : d * lo ≡ d * 0 = ap (λ m. d * m) q in omega (arith, none, mul-zero d)) in
    let last : (greatest_of xs == s.greatest) ≡ (hi == n) =
    ap (λ m. m == s.greatest) high ∙ same_tests (l + d * hi) s.greatest hi n
    (λ q. let same : d * hi ≡ d * n = omega (arith, q, top) in eq_of_mul-eq-mul_left d p hi n same)
    (λ q. ap (λ m. l + d * m) q ∙ top) in
    let step : ((lo == 0) && (hi == n)) ≡ true → (at_least_one (gcd_of (map (λ x. x - least_of xs) xs)) == d) ≡ (at_least_one g == 1) =
    λ t. let parts = and_parts (lo == 0) (hi == n) t in
    ap (λ m. at_least_one m == d) divisor
    ∙ same-divisor d n lo hi g p flat (flat-bound lo (k ∷ ks)) (eqb-true lo 0 parts.0) (eqb-true hi n parts.1)
    in
    let count : (length xs == s.count) ≡ (length (k ∷ ks) == s.count) = ap (λ m. m == s.count) (length-map (k ∷ ks) (λ k. l + d * k)) in
    let divides = at_least_one (gcd_of (map (λ x. x - least_of xs) xs)) == d in
    ap (λ b. b && (greatest_of xs == s.greatest) && divides && (length xs == s.count)) first
    ∙ ap (λ b. (lo == 0) && b && divides && (length xs == s.count)) last
    ∙ ap (λ b. b && (length xs == s.count)) (and-when ((lo == 0) && (hi == n)) divides (at_least_one g == 1) step)
    ∙ ap (λ b. (lo == 0) && (hi == n) && (at_least_one g == 1) && b) count

-- Where the list has no steps, they are its.
pub same_stats-level : (s : Stats) (ks : List ℕ) → length ks ≡ s.count → steps_of s ≡ 0
    → AllByRecursion (λ k. k ≡ 0) ks → same_stats (stats_of ks) (steps_stats s) ≡ true
unfolding stats_of
same_stats-level s ks e none zeros =
    let low : least_of ks ≡ 0 = least-level ks zeros in
    let high : greatest_of ks ≡ 0 = fold-max-one (λ k. k ≡ 0) 0 ks refl zeros in
    let spans : gcd_of (map (λ k. k - least_of ks) ks) ≡ 0 =
    zeros-gcd (map (λ k. k - least_of ks) ks)
    (mapped_all (λ j. j ≡ 0) (λ k. k - least_of ks) ks (all_by (λ k z. omega (arith, z)) ks zeros)) in
    let one : at_least_one (gcd_of (map (λ k. k - least_of ks) ks)) ≡ 1 = ap at_least_one spans in
    and_from _ _ (and_from _ _
    (and_from _ _ (eq-eqb (least_of ks) 0 low) (eq-eqb (greatest_of ks) (steps_of s) (high ∙ sym none)))
    (eq-eqb (at_least_one (gcd_of (map (λ k. k - least_of ks) ks))) 1 one)) (eq-eqb (length ks) s.count e)
  where
    least-level : (ks : List ℕ) → AllByRecursion (λ k. k ≡ 0) ks → least_of ks ≡ 0
    least-level [] zeros = refl
    least-level (k ∷ ks) zeros = omega (arith, (least_of-all (k ∷ ks)).0, zeros.0)
