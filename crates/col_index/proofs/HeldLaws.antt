-- Rows that are in a rising list.
use Rattle.std.proofs.Common.{◌≡◌, ℕ, zero, suc, ◌+◌, ◌<◌, ◌≤◌, ◌||◌, nat_eq, true, false, cond, List, [], ◌∷◌, length, get_or, refl, sym, ap, ◌∙◌, inl, inr, arith}
use Rattle.std.specs.List.{AllByRecursion}
use Rattle.std.specs.Prelude.{slice_get, Some}
use Rattle.std.proofs.lemmas.Option.{slice_get-get_or, slice_get_within, get_or_from_slice_get}
use Rattle.std.proofs.lemmas.Bool.{eq-eqb, eqb-true, ne_eqb, cases_order, or_cases, or_left, or_right, or_from, true≢false}
use Rattle.col_common.specs.Ascending.{is_rising}
use Rattle.col_model.specs.Positions.{rank}
use Rattle.col_index.proofs.RankLaws.{rank-cons_below, rank-cons_above, tail_rises, rising_from, rank-none, rank-monotone, rank-at}
use Rattle.col_index.specs.Laws.{IsRanked}
use Rattle.col_index.specs.Sets.{holds}

-- a list holds each of its items
pub holds-at : (xs : List ℕ) (k : ℕ) → k < length xs → holds xs (get_or xs k 0) ≡ true
holds-at [] k h = absurd (omega arith)
holds-at (x ∷ xs) zero h = or_left (nat_eq x x) (holds xs x) (eq-eqb x x refl)
holds-at (x ∷ xs) (suc k) h = or_right (nat_eq x (get_or xs k 0)) (holds xs (get_or xs k 0)) (holds-at xs k (omega arith))

-- where a row is
pub holds_index : (xs : List ℕ) (t : ℕ) → holds xs t ≡ true → (k : ℕ) × (k < length xs) × (get_or xs k 0 ≡ t)
holds_index [] t e = absurd (true≢false (sym e))
holds_index (x ∷ xs) t e = elim (or_cases (nat_eq x t) (holds xs t) e) [
  | inl b ↦ (0, omega arith, eqb-true x t b)
  | inr r ↦ let rest = holds_index xs t r in (suc rest.0, omega (arith, rest.1), rest.2)
]

-- a list whose items are all above a row doesn't hold it
pub holds-none : (xs : List ℕ) (t : ℕ) → AllByRecursion (λ y. suc t ≤ y) xs → holds xs t ≡ false
holds-none [] t a = refl
holds-none (x ∷ xs) t a = or_from (nat_eq x t) (holds xs t) (ne_eqb x t (λ e. omega (arith, a.0))) (holds-none xs t a.1)

-- a row has its rank exactly where it is in
pub holds-rank : (xs : List ℕ) (t : ℕ) → is_rising xs ≡ true → holds xs t ≡ true → (rank xs t < length xs) × (get_or xs (rank xs t) 0 ≡ t)
holds-rank xs t e h =
    let i = holds_index xs t h in
    let here : rank xs t ≡ i.0 = ap (rank xs) (sym i.2) ∙ rank-at xs i.0 e i.1 in
    (omega (arith, i.1), ap (λ k. get_or xs k 0) here ∙ i.2)

-- a list holds a row that stands at its own rank
pub rank-holds : (xs : List ℕ) (t : ℕ) → rank xs t < length xs → get_or xs (rank xs t) 0 ≡ t → holds xs t ≡ true
rank-holds xs t h e = ap (holds xs) (sym e) ∙ holds-at xs (rank xs t) h

-- rows that rise are a set with ranks
pub rows-ranked : (xs : List ℕ) → is_rising xs ≡ true → IsRanked (holds xs) (rank xs) (slice_get xs) (λ k. k < length xs)
rows-ranked xs e = record {
  ranks = λ k el h. ap (rank xs) (sym (get_or_from_slice_get xs k el 0 h)) ∙ rank-at xs k e (slice_get_within xs k el h);
  members = λ el. (
    λ h. let p = holds-rank xs el e h in slice_get-get_or xs (rank xs el) 0 p.0 ∙ ap Some p.1,
    λ h. rank-holds xs el (slice_get_within xs (rank xs el) el h) (get_or_from_slice_get xs (rank xs el) el 0 h),
  );
  selects = λ k. (λ h. (get_or xs k 0, slice_get-get_or xs k 0 h), λ p. slice_get_within xs k p.0 p.1);
}

-- the next number's rank counts the row too
pub rank-next : (xs : List ℕ) (t : ℕ) → is_rising xs ≡ true → rank xs (t + 1) ≡ rank xs t + cond (holds xs t) 1 0
rank-next [] t e = refl
rank-next (x ∷ xs) t e = elim (cases_order x t) [
  | inl b ↦
      let none = rank-none xs (t + 1) (rising_from (t + 1) x xs e (omega arith)) in
      let held : holds (x ∷ xs) t ≡ true = or_left (nat_eq x t) (holds xs t) (eq-eqb x t b) in
      rw held (omega (
        arith,
        none,
        rank-cons_below x xs (t + 1) (omega arith),
        rank-cons_above x xs t (omega arith),
        rank-monotone xs t (t + 1) (omega arith),
      ))
  | inr (inl b) ↦
      let other : holds (x ∷ xs) t ≡ holds xs t = ap (λ b. b || holds xs t) (ne_eqb x t (λ f. omega arith)) in
      rw other (omega (arith, rank-next xs t (tail_rises x xs e), rank-cons_below x xs (t + 1) (omega arith), rank-cons_below x xs t b))
  | inr (inr a) ↦
      let free : holds (x ∷ xs) t ≡ false = holds-none (x ∷ xs) t (a, rising_from (suc t) x xs e (omega arith)) in
      let none = rank-none xs (t + 1) (rising_from (t + 1) x xs e (omega arith)) in
      rw free (omega (
        arith,
        none,
        rank-cons_above x xs (t + 1) (omega arith),
        rank-cons_above x xs t (omega arith),
        rank-monotone xs t (t + 1) (omega arith),
      ))
]
