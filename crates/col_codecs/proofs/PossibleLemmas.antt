-- Statistics that a list may have.
use Rattle.std.proofs.Common.{◌≡◌, ℕ, ◌+◌, ◌-◌, ◌*◌, ◌/◌, ◌^◌, ◌<◌, ◌≤◌, ◌==◌, ◌||◌, ◌&&◌, nat_le, nat_lt, inl, inr, List, [], ◌∷◌, ◌++◌, length, true, Some, refl, ◌∙◌, ap, arith, subst, mul_comm, mul-div_cancel, mul-zero, div-le_self}
use native.Mathlib.Nat.{mul-pos}
use Rattle.std.proofs.lemmas.Bool.{and_parts, and_from, or_cases, or_left, or_right, leb-true, le-leb, eqb-true, eq-eqb, lt-ltb, cases_eq}
use Rattle.std.proofs.lemmas.Option.{option_and_then_some, cond_some}
use Rattle.col_common.specs.Ascending.{AreBelow}
use Rattle.col_common.specs.VInt.{vint}
use Rattle.col_model.specs.Stats.{Stats, stats_of, stats_at, stats_bytes, steps_of, are_possible, greatest_of}
use Rattle.col_model.proofs.StatsLaws.{fold-max, all_by}
use Rattle.col_model.proofs.OneFormLaws.{of_parts, with_count, with_steps, with_divisor, with_least}
use Rattle.col_model.proofs.U64ListLaws.{Describes, stats_of-describes, stats_at-stats_bytes}
use Rattle.col_codecs.specs.ColumnStats.{IsPossible}

-- where the test of the four numbers holds
IsPossible-tested : (least divisor steps count : ℕ) → are_possible least divisor steps count ≡ true
    → IsPossible (of_parts least divisor steps count)
IsPossible-tested least divisor steps count e =
    let some = nat_le 1 divisor in
    let fits = nat_lt (least + divisor * steps) (2 ^ 64) in
    let few = nat_lt count (2 ^ 32) in
    let flat = nat_le 1 steps || (divisor == 1) in
    let empty = nat_le 1 count || ((least == 0) && (steps == 0)) in
    let p = and_parts (some && fits && few && flat) empty e in
    let q = and_parts (some && fits && few) flat p.0 in
    let r = and_parts some fits (and_parts (some && fits) few q.0).0 in
    let positive : 0 < divisor = leb-true 1 divisor r.0 in
    let span : least + divisor * steps - least ≡ steps * divisor = omega (arith, mul_comm divisor steps) in
    let counted : (least + divisor * steps - least) / divisor ≡ steps = ap (λ m. m / divisor) span ∙ mul-div_cancel steps positive in
    record {
      ordered = omega arith;
      positive = positive;
      top = ap (λ k. least + divisor * k) counted;
      flat = λ h. elim (or_cases (nat_le 1 steps) (divisor == 1) q.1) [
        | inl t ↦ absurd (let some : 0 < divisor * steps = mul-pos positive (omega (arith, leb-true 1 steps t)) in omega (arith, some, h))
        | inr t ↦ eqb-true divisor 1 t
      ];
      empty = λ z. elim (or_cases (nat_le 1 count) ((least == 0) && (steps == 0)) p.1) [
        | inl t ↦ absurd (omega (arith, leb-true 1 count t))
        | inr t ↦
            let both = and_parts (least == 0) (steps == 0) t in
            let none : divisor * steps ≡ 0 = ap (λ k. divisor * k) (eqb-true steps 0 both.1) ∙ mul-zero divisor in
            omega (arith, none, eqb-true least 0 both.0)
      ];
    }

-- statistics that are read
pub IsPossible-stats_at : (bytes : List ℕ) (s : Stats) (rest : List ℕ) → stats_at bytes ≡ Some (s, rest) → IsPossible s
unfolding stats_at
IsPossible-stats_at bytes s rest e =
    option_and_then_some with_least (vint bytes) (s, rest) e (λ least _ e1.
    option_and_then_some (with_divisor least.0) (vint least.1) (s, rest) e1 (λ divisor _ e2.
    option_and_then_some (with_steps least.0 divisor.0) (vint divisor.1) (s, rest) e2 (λ steps _ e3.
    option_and_then_some (with_count least.0 divisor.0 steps.0) (vint steps.1) (s, rest) e3 (λ count _ e4.
    let found = cond_some (are_possible least.0 divisor.0 steps.0 count.0)
    (of_parts least.0 divisor.0 steps.0 count.0, count.1) (s, rest) e4 in
    subst IsPossible (ap (λ p. p.0) found.1) (IsPossible-tested least.0 divisor.0 steps.0 count.0 found.0)))))

-- a number that the greatest item bounds bounds each
pub small_by_greatest : (n : ℕ) (xs : List ℕ) → greatest_of xs < n → AreBelow n xs
small_by_greatest n xs h = all_by (λ x p. omega (arith, p, h)) xs (fold-max 0 xs).1

greatest-nothing : (xs : List ℕ) → length xs ≡ 0 → greatest_of xs ≡ 0
greatest-nothing [] e = refl
greatest-nothing (x ∷ xs) e = absurd (omega (arith, e))

-- the statistics of a list
pub IsPossible-stats_of : (s : Stats) (xs : List ℕ) → s ≡ stats_of xs → s.greatest < 2 ^ 64 → IsPossible s
unfolding stats_of
IsPossible-stats_of s xs e h =
    let top : s.greatest ≡ greatest_of xs = ap (λ t. t.greatest) e in
    let d : Describes xs s = rw e (stats_of-describes xs (small_by_greatest (2 ^ 64) xs (omega (arith, h, top)))) in
    record {
      ordered = omega (arith, d.top);
      positive = d.positive;
      top = d.top;
      flat = d.flat;
      empty = λ z. top ∙ greatest-nothing xs (omega (arith, z, d.count));
    }

-- what they are read back from, whatever follows
pub stats_at-possible : (s : Stats) (rest : List ℕ) → IsPossible s → s.greatest < 2 ^ 64 → s.divisor < 2 ^ 64
    → s.count < 2 ^ 32 → stats_at (stats_bytes s ++ rest) ≡ Some (s, rest)
stats_at-possible s rest p fits divisor count =
    let low = p.ordered in
    let some = p.positive in
    let most : steps_of s ≤ s.greatest - s.least = div-le_self (s.greatest - s.least) s.divisor in
    let flat : (nat_le 1 (steps_of s) || (s.divisor == 1)) ≡ true = elim (cases_eq (steps_of s) 0) [
      | inl e ↦ or_right (nat_le 1 (steps_of s)) (s.divisor == 1)
          (eq-eqb s.divisor 1 (p.flat (let none : s.divisor * steps_of s ≡ 0 = ap (λ k. s.divisor * k) e
          ∙ mul-zero s.divisor in omega (arith, none, p.top))))
      | inr n ↦ or_left _ _ (le-leb 1 (steps_of s) (omega (arith, n)))
    ] in
    let counted : (nat_le 1 s.count || ((s.least == 0) && (steps_of s == 0))) ≡ true = elim (cases_eq s.count 0) [
      | inl e ↦ let z = p.empty e in
          or_right (nat_le 1 s.count) _ (and_from _ _ (eq-eqb s.least 0 (omega (arith, z, low)))
          (eq-eqb (steps_of s) 0 (omega (arith, most, z))))
      | inr n ↦ or_left _ _ (le-leb 1 s.count (omega (arith, n)))
    ] in
    let below : nat_lt (s.least + s.divisor * steps_of s) (2 ^ 64) ≡ true = lt-ltb _ (2 ^ 64) (rw p.top fits) in
    let test : are_possible s.least s.divisor (steps_of s) s.count ≡ true =
    and_from _ _ (and_from _ _
    (and_from _ _ (and_from _ _ (le-leb 1 s.divisor some) below) (lt-ltb s.count (2 ^ 32) count)) flat)
    counted in
    stats_at-stats_bytes s rest (omega (arith, low, fits)) divisor (omega (arith, most, fits)) (omega (arith, count)) test p.top
