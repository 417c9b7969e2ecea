-- Documents that never fall, of which one is there twice.
use Rattle.std.proofs.Common.{◌≡◌, ◌<◌, ◌≤◌, inl, inr, ℕ, zero, suc, ◌+◌, List, [], ◌∷◌, get_or, Bool, true, false, cond, refl, sym, ◌∙◌, arith, lt-ltb, le-leb, leb-true, eqb-true, eq-eqb}
use Rattle.std.specs.Prelude.{nat_lt, nat_le, ◌==◌}
use Rattle.std.specs.List.{list_all}
use Rattle.std.proofs.lemmas.Bool.{and_parts, and_from, cases_order}
use Rattle.std.proofs.lemmas.List.Sums.{sum_by-cons}
use Rattle.col_common.specs.Ascending.{are_below, is_never_falling, is_rising}
use Rattle.col_writer_rows.specs.Counted.{counts_of_rows}
use Rattle.col_writer_rows.proofs.DocCountLemmas.{count, none-above}
use Rattle.col_writer_rows.proofs.StartLemmas.{count-is}

-- documents that never fall, none of which is there twice, rise
few-rise : (docs : List ℕ) → is_never_falling docs ≡ true → ((d : ℕ) → count d docs ≤ 1) → is_rising docs ≡ true
few-rise [] e few = refl
few-rise (x ∷ []) e few = refl
few-rise (x ∷ y ∷ zs) e few =
    let parts = and_parts (nat_le x y) (is_never_falling (y ∷ zs)) e in
    and_from (nat_lt x y) _ (lt-ltb x y (less (leb-true x y parts.0)))
    (few-rise (y ∷ zs) parts.1 (λ d. omega (arith, few d, sum_by-cons (λ z. cond (z == d) 1 0) x (y ∷ zs))))
  where
    twice : x ≡ y → count x (x ∷ y ∷ zs) ≡ 1 + (1 + count x zs)
    twice same =
        let one : (x == x) ≡ true = eq-eqb x x refl in
        let other : (y == x) ≡ true = eq-eqb y x (sym same) in
        sum_by-cons (λ z. cond (z == x) 1 0) x (y ∷ zs)
        ∙ (λ i. cond (one i) 1 0 + (sum_by-cons (λ z. cond (z == x) 1 0) y zs
        ∙ (λ j. cond (other j) 1 0 + count x zs)) i)

    less : x ≤ y → x < y
    less h = elim (cases_order x y) [
      | inl same ↦ absurd (omega (arith, few x, twice same))
      | inr (inl l) ↦ l
      | inr (inr g) ↦ absurd (omega (arith, h, g))
    ]

few-at : (cs : List ℕ) (i : ℕ) → list_all (λ c. nat_le c 1) cs ≡ true → get_or cs i 0 ≤ 1
few-at [] i e = omega arith
few-at (c ∷ cs) zero e = let parts = and_parts (nat_le c 1) (list_all (λ d. nat_le d 1) cs) e in leb-true c 1 parts.0
few-at (c ∷ cs) (suc i) e =
    let parts = and_parts (nat_le c 1) (list_all (λ d. nat_le d 1) cs) e in few-at cs i parts.1

ones-few : (cs : List ℕ) → list_all (λ c. c == 1) cs ≡ true → list_all (λ c. nat_le c 1) cs ≡ true
ones-few [] e = refl
ones-few (c ∷ cs) e =
    let parts = and_parts (c == 1) (list_all (λ d. d == 1) cs) e in
    let one : c ≡ 1 = eqb-true c 1 parts.0 in
    and_from (nat_le c 1) _ (le-leb c 1 (omega (arith, one))) (ones-few cs parts.1)

-- where each row has at most one, they rise
few-counted : (n : ℕ) (docs : List ℕ) → is_never_falling docs ≡ true → are_below n docs ≡ true
    → list_all (λ c. nat_le c 1) (counts_of_rows n docs) ≡ true → is_rising docs ≡ true
few-counted n docs fall below few = few-rise docs fall at_most
  where
    at_most : (d : ℕ) → count d docs ≤ 1
    at_most d = elim (cases_order d n) [
      | inl e ↦ omega (arith, none-above n d docs below (omega (arith, e)))
      | inr (inl l) ↦ omega (arith, count-is n docs d l, few-at (counts_of_rows n docs) d few)
      | inr (inr g) ↦ omega (arith, none-above n d docs below (omega (arith, g)))
    ]

not-so : (b r : Bool) → (b ≡ true → r ≡ true) → r ≡ false → b ≡ false
not-so false r f e = refl
not-so true r f e = absurd (absurd-so (sym (f refl) ∙ e))
  where
    absurd-so : true ≡ false → ⊥
    absurd-so h = cc

-- where they don't rise, some row has more than one
pub many-counted : (n : ℕ) (docs : List ℕ) → is_never_falling docs ≡ true → are_below n docs ≡ true
    → is_rising docs ≡ false
    → (list_all (λ c. c == 1) (counts_of_rows n docs) ≡ false) × (list_all (λ c. nat_le c 1) (counts_of_rows n docs) ≡ false)
many-counted n docs fall below apart = (
  not-so (list_all (λ c. c == 1) (counts_of_rows n docs)) (is_rising docs)
      (λ ones. few-counted n docs fall below (ones-few (counts_of_rows n docs) ones)) apart,
  not-so (list_all (λ c. nat_le c 1) (counts_of_rows n docs)) (is_rising docs) (few-counted n docs fall below) apart,
)
