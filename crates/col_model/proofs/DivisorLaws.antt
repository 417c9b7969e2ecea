-- The divisor of a list's statistics is the greatest that divides all differences.
use Rattle.std.proofs.Common.{◌≡◌, ℕ, ◌-◌, ◌<◌, ◌≤◌, inl, inr, List, [], ◌∷◌, sym, ap, arith, subst}
use Rattle.std.specs.List.{AllByRecursion}
use Rattle.std.specs.Int.{◌∣◌}
use Rattle.std.proofs.lemmas.Bool.{cases_lt}
use Rattle.std.proofs.lemmas.Nat.Gcd.{le_of_dvd, dvd-zero}
use native.Mathlib.Nat.{dvd-sub, eq-zero_of_zero-dvd}
use Rattle.col_model.specs.Stats.{gcd_of, least_of, greatest_of, at_least_one, stats_of}
use Rattle.col_model.specs.Laws.{DividesDifferences, DivisorIsGreatest}
use Rattle.col_model.proofs.StatsLaws.{all_by, all_mapped, mapped_all, all_both, least_of-all, fold-max, fold-max-one, divisor-divides, zeros-gcd}
use Rattle.col_model.proofs.CollectLaws.{spans_of, divides-gcd_of, gcd_of-divides, fold-min-one}

-- what divides each item's distance from a least one divides all differences
differences-from : (d m : ℕ) (xs : List ℕ) → AllByRecursion (λ x. m ≤ x) xs → AllByRecursion (λ x. d ∣ x - m) xs → DividesDifferences d xs
differences-from d m xs above all =
    let both = all_both (λ x. m ≤ x) (λ x. d ∣ x - m) xs above all in
    all_by (λ x p. all_by (λ y q. let e : x - m - (y - m) ≡ x - y = omega (arith, p.0, q.0) in subst (λ k. d ∣ k) e
    (dvd-sub d p.1 q.1)) xs both) xs both

-- what divides all differences divides those from the least item
spans-from : (d : ℕ) (xs : List ℕ) → DividesDifferences d xs → AllByRecursion (λ x. d ∣ x - least_of xs) xs
spans-from d [] all = tt
spans-from d (y ∷ ys) all = all_by (λ x p. fold-min-one (λ m. d ∣ x - m) y ys p.0 p.1) (y ∷ ys) all

alike-spans : (xs : List ℕ) → least_of xs ≡ greatest_of xs → AllByRecursion (λ x. x ≡ 0) (spans_of xs)
alike-spans xs e = mapped_all (λ x. x ≡ 0) (λ x. x - least_of xs) xs (all_by (λ x p. omega (arith, p, e)) xs (fold-max 0 xs).1)

-- the divisor of distances that aren't all 0 is their greatest common divisor itself
divisor-apart : (d : ℕ) (xs : List ℕ) → least_of xs < greatest_of xs → d ∣ gcd_of (spans_of xs) → d ≤ at_least_one (gcd_of (spans_of xs))
divisor-apart d xs h p =
    let g = gcd_of (spans_of xs) in
    elim (cases_lt 0 g) [
      | inl positive ↦ (let le = le_of_dvd positive p in omega arith)
      | inr none ↦ absurd (spread (omega arith))
    ]
  where
    spread : gcd_of (spans_of xs) ≡ 0 → ⊥
    spread e =
        let spans = all_mapped (λ x. 0 ∣ x) (λ x. x - least_of xs) xs
        (gcd_of-divides 0 (spans_of xs) (subst (λ g. 0 ∣ g) (sym e) (dvd-zero 0))) in
        let low : greatest_of xs ≤ least_of xs = fold-max-one (λ x. x ≤ least_of xs) 0 xs (omega arith)
        (all_by (λ x p. let none = eq-zero_of_zero-dvd p in omega (arith, none)) xs spans) in
        omega (arith, h, low)

-- the divisor of a list's statistics is the greatest that divides all differences, and 1 where none
-- differ
pub divisor-is-greatest : DivisorIsGreatest
unfolding stats_of
divisor-is-greatest = record {
  divides =
      λ xs. differences-from (stats_of xs).divisor (least_of xs) xs (least_of-all xs)
      (all_mapped (λ x. (stats_of xs).divisor ∣ x) (λ x. x - least_of xs) xs (divisor-divides (spans_of xs)));
  greatest =
      λ xs d h all. divisor-apart d xs h
      (divides-gcd_of d (spans_of xs) (mapped_all (λ x. d ∣ x) (λ x. x - least_of xs) xs (spans-from d xs all)));
  one = λ xs e. ap at_least_one (zeros-gcd (spans_of xs) (alike-spans xs e));
}
