-- Under Bitpacked a list is read back.
use Rattle.std.proofs.Common.{◌≡◌, ℕ, ◌+◌, ◌-◌, ◌*◌, ◌/◌, ◌^◌, ◌<◌, ◌≤◌, ◌||◌, ◌&&◌, ◌==◌, nat_le, nat_lt, List, [], ◌∷◌, ◌++◌, map, length, Some, true, refl, ◌∙◌, ap, inl, inr, arith, append_assoc, lit<, mul-zero, div-le_self, lt_of_le_of_lt, le_trans, div-mul-le_self}
use Rattle.std.proofs.lemmas.List.{length-map}
use Rattle.std.proofs.lemmas.Nat.{le-div}
use Rattle.std.specs.List.{AllByRecursion}
use Rattle.std.specs.Int.{◌∣◌}
use Rattle.std.proofs.lemmas.Bool.{and_from, lt-ltb, le-leb, eq-eqb, cases_eq, cases_lt, or_left, or_right}
use native.Mathlib.Nat.{mul-div_cancel', dvd-zero, le_of_dvd}
use Rattle.col_common.specs.Ascending.{AreBelow}
use Rattle.col_model.specs.Stats.{Stats, stats_of, stats_at, stats_bytes, steps_of, are_possible, same_stats, least_of, greatest_of, gcd_of, at_least_one}
use Rattle.col_bits.specs.Packed.{width, packed, packed_bytes}
use Rattle.col_model.specs.U64List.{values64, bitpacked_bytes, bitpacked_values}
use Rattle.col_common.proofs.VIntLemmas.{vint-vint_bytes}
use Rattle.col_bits.proofs.PackedLemmas.{packed-packed_bytes}
use Rattle.col_model.proofs.StatsLaws.{least_of-all, fold-max, fold-max-one, divisor-divides, all_by, all_mapped, mapped_all, all_both, map-same, map-map, zeros-gcd}
use Rattle.col_model.proofs.WidthLaws.{width-above}

-- statistics are read back from their bytes, whatever follows
pub stats_at-stats_bytes : (s : Stats) (rest : List ℕ) → s.least < 2 ^ 64 → s.divisor < 2 ^ 64 → steps_of s < 2 ^ 64
    → s.count < 2 ^ 64 → are_possible s.least s.divisor (steps_of s) s.count ≡ true
    → s.least + s.divisor * steps_of s ≡ s.greatest → stats_at (stats_bytes s ++ rest) ≡ Some (s, rest)
unfolding stats_at
stats_at-stats_bytes s rest a b c d p e =
    rw (
      append_assoc,
      append_assoc,
      append_assoc,
      vint-vint_bytes s.least _ a,
      vint-vint_bytes s.divisor _ b,
      vint-vint_bytes (steps_of s) _ c,
      vint-vint_bytes s.count rest d,
      p,
      e,
    ) refl

-- the least item is at most the greatest
pub least_le-greatest : (xs : List ℕ) → least_of xs ≤ greatest_of xs
least_le-greatest [] = omega arith
least_le-greatest (x ∷ xs) = omega (arith, (least_of-all (x ∷ xs)).0, (fold-max 0 (x ∷ xs)).1.0)

-- the differences from the least item
abbrev spans : List ℕ → List ℕ
spans xs = map (λ x. x - least_of xs) xs

abbrev divisor_of : List ℕ → ℕ
divisor_of xs = at_least_one (gcd_of (spans xs))

divides-spans : (xs : List ℕ) → AllByRecursion (λ x. divisor_of xs ∣ x - least_of xs) xs
divides-spans xs = all_mapped (λ y. divisor_of xs ∣ y) (λ x. x - least_of xs) xs (divisor-divides (spans xs))

divides-top : (xs : List ℕ) → divisor_of xs ∣ greatest_of xs - least_of xs
divides-top xs =
    let none : 0 - least_of xs ≡ 0 = omega arith in fold-max-one (λ x. divisor_of xs ∣ x - least_of xs) 0 xs
    (rw none (dvd-zero (divisor_of xs))) (divides-spans xs)

-- where the bounds are one, the divisor is 1
divisor-flat : (xs : List ℕ) → greatest_of xs ≤ least_of xs → divisor_of xs ≡ 1
divisor-flat xs h =
    ap at_least_one (zeros-gcd (spans xs)
    (mapped_all (λ y. y ≡ 0) (λ x. x - least_of xs) xs (all_by (λ x p. omega (arith, p)) xs (fold-max 0 xs).1)))

divisor-bound : (xs : List ℕ) → greatest_of xs < 2 ^ 64 → divisor_of xs < 2 ^ 64
divisor-bound xs h =
    elim (cases_lt (least_of xs) (greatest_of xs)) [
      | inl p ↦ omega (arith, le_of_dvd (omega arith) (divides-top xs))
      | inr p ↦ omega (arith, divisor-flat xs p)
    ]

-- what statistics say of their list
pub record Describes (xs : List ℕ) (s : Stats) : Type 0 where
  pub below : AllByRecursion (λ x. s.least ≤ x) xs
  pub within : AllByRecursion (λ x. x ≤ s.greatest) xs
  pub divides : AllByRecursion (λ x. s.divisor ∣ x - s.least) xs
  pub top : s.least + s.divisor * steps_of s ≡ s.greatest
  pub fits : s.greatest < 2 ^ 64
  pub divisor_fits : s.divisor < 2 ^ 64
  pub positive : 0 < s.divisor
  pub flat : s.greatest ≤ s.least → s.divisor ≡ 1
  pub count : s.count ≡ length xs

-- the statistics of a list of numbers below 2 ^ 64 say of it what statistics say
pub stats_of-describes : (xs : List ℕ) → AreBelow (2 ^ 64) xs → Describes xs (stats_of xs)
unfolding stats_of
stats_of-describes xs all =
    let fits : greatest_of xs < 2 ^ 64 = fold-max-one (λ x. x < 2 ^ 64) 0 xs (lit< tt) all in
    record {
      below = least_of-all xs;
      within = (fold-max 0 xs).1;
      divides = divides-spans xs;
      top = rw (mul-div_cancel' (divisor_of xs) (divides-top xs)) (omega (arith, least_le-greatest xs));
      fits = fits;
      divisor_fits = divisor-bound xs fits;
      positive = omega arith;
      flat = divisor-flat xs;
      count = refl;
    }

-- a list of no length
pub no_count : (xs : List ℕ) → length xs ≡ 0 → xs ≡ []
no_count [] e = refl
no_count (x ∷ xs) e = absurd (omega arith)

-- a statistic of no item
bounds-empty : (xs : List ℕ) → xs ≡ [] → ((stats_of xs).least ≡ 0) × (steps_of (stats_of xs) ≡ 0)
unfolding stats_of
bounds-empty [] e = (refl, refl)
bounds-empty (x ∷ xs) e = absurd (omega (arith, ap length e))

steps-positive : (xs : List ℕ) (s : Stats) → Describes xs s → s.least < s.greatest → 0 < steps_of s
steps-positive xs s d p =
    elim (cases_eq (steps_of s) 0) [
      | inl e ↦ absurd (let t : s.least + s.divisor * 0 ≡ s.greatest = rw (← e) d.top in omega (arith, t, mul-zero s.divisor))
      | inr n ↦ omega (arith, n)
    ]

-- the statistics of fewer than 2 ^ 32 numbers below 2 ^ 64 pass the test of those that can be
pub are_possible-described : (xs : List ℕ) → AreBelow (2 ^ 64) xs → length xs < 2 ^ 32
    → let s = stats_of xs in are_possible s.least s.divisor (steps_of s) s.count ≡ true
are_possible-described xs all len =
    let s = stats_of xs in
    let d = stats_of-describes xs all in
    let flat : (nat_le 1 (steps_of s) || (s.divisor == 1)) ≡ true = elim (cases_lt s.least s.greatest) [
      | inl p ↦ or_left _ _ (le-leb 1 (steps_of s) (steps-positive xs s d p))
      | inr p ↦ or_right (nat_le 1 (steps_of s)) (s.divisor == 1) (eq-eqb s.divisor 1 (d.flat p))
    ] in
    let counted : (nat_le 1 s.count || ((s.least == 0) && (steps_of s == 0))) ≡ true = elim (cases_lt 0 (length xs)) [
      | inl p ↦ or_left _ _ (le-leb 1 s.count (omega (arith, d.count, p)))
      | inr p ↦ let z = bounds-empty xs (no_count xs (omega arith)) in
          or_right (nat_le 1 s.count) _ (and_from _ _ (eq-eqb s.least 0 z.0) (eq-eqb (steps_of s) 0 z.1))
    ] in
    let fits : nat_lt (s.least + s.divisor * steps_of s) (2 ^ 64) ≡ true = lt-ltb _ (2 ^ 64) (rw d.top d.fits) in
    and_from _ _ (and_from _ _ (and_from _ _ (and_from _ _ (le-leb 1 s.divisor d.positive) fits)
    (lt-ltb s.count (2 ^ 32) (rw d.count len))) flat) counted

-- statistics are the same as themselves
pub same_stats-self : (s : Stats) → same_stats s s ≡ true
same_stats-self s =
    and_from _ _ (and_from _ _ (and_from _ _ (eq-eqb s.least s.least refl) (eq-eqb s.greatest s.greatest refl))
    (eq-eqb s.divisor s.divisor refl)) (eq-eqb s.count s.count refl)

-- statistics of a list have fewer than 2 ^ 64 steps from the least to the greatest
pub steps-bound : (xs : List ℕ) (s : Stats) → Describes xs s → steps_of s < 2 ^ 64
steps-bound xs s d = omega (arith, div-le_self (s.greatest - s.least) s.divisor, d.fits)

-- how many divisors each item lies above the least
abbrev pub steps_list : Stats → List ℕ → List ℕ
steps_list s xs = map (λ x. (x - s.least) / s.divisor) xs

div-mono : (m n k : ℕ) → 0 < k → m ≤ n → m / k ≤ n / k
div-mono m n k p h = le-div (m / k) n k p (le_trans (div-mul-le_self m k) h)

steps_list-bound : (xs : List ℕ) (s : Stats) → Describes xs s → AreBelow (2 ^ width (steps_of s)) (steps_list s xs)
steps_list-bound xs s d = mapped_all (λ k. k < 2 ^ width (steps_of s)) (λ x. (x - s.least) / s.divisor) xs
    (all_by (λ x p. lt_of_le_of_lt
    (div-mono (x - s.least) (s.greatest - s.least) s.divisor d.positive (omega (arith, p)))
    (width-above (steps_of s) (steps-bound xs s d))) xs d.within)

-- the least and a divisor's multiple for each step give the list back
pub steps_list-back : (xs : List ℕ) (s : Stats) → Describes xs s → map (λ k. s.least + s.divisor * k) (steps_list s xs) ≡ xs
steps_list-back xs s d = map-map (λ x. (x - s.least) / s.divisor) (λ k. s.least + s.divisor * k) xs
    ∙ map-same (λ x. s.least + s.divisor * ((x - s.least) / s.divisor)) xs
    (all_by (λ x p. rw (mul-div_cancel' s.divisor p.1) (omega (arith, p.0))) xs
    (all_both (λ x. s.least ≤ x) (λ x. s.divisor ∣ x - s.least) xs d.below d.divides))

-- A list is read back from its bytes under Bitpacked.
pub values64-bitpacked_bytes : (xs : List ℕ) → AreBelow (2 ^ 64) xs → length xs < 2 ^ 32 → values64 (bitpacked_bytes xs) ≡ Some xs
unfolding values64 bitpacked_values
values64-bitpacked_bytes xs all len =
    let s = stats_of xs in
    let d = stats_of-describes xs all in
    let w = width (steps_of s) in
    let ks = steps_list s xs in
    let header = stats_at-stats_bytes s (packed_bytes w ks) (omega (arith, d.fits, d.top)) d.divisor_fits
    (steps-bound xs s d) (omega (arith, d.count, len)) (are_possible-described xs all len) d.top in
    let body : packed (packed_bytes w ks) w s.count ≡ Some ks =
    rw (d.count, ← length-map xs (λ x. (x - s.least) / s.divisor))
    (packed-packed_bytes w ks (steps_list-bound xs s d)) in
    rw (header, body, steps_list-back xs s d, same_stats-self s) refl
