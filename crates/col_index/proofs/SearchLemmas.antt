-- Searches in rising lists.
use Rattle.std.proofs.Common.{◌≡◌, ℕ, zero, suc, ◌+◌, ◌-◌, ◌/◌, ◌^◌, ◌<◌, ◌≤◌, true, List, [], ◌∷◌, length, slice_get, slice_index, slice_index_or, Some, subst, inl, inr, arith}
use Rattle.std.proofs.lemmas.Bool.{and_parts, ltb-true, cases_lt}
use Rattle.std.proofs.lemmas.List.{get_or_default, get_or_past}
use Rattle.std.proofs.lemmas.Option.{get_or_from_slice_get}
use Rattle.col_common.specs.Ascending.{is_rising}
use Rattle.col_model.specs.Positions.{rank}
use Rattle.col_index.specs.Search.{IsNarrowed}
use Rattle.col_index.proofs.RankLaws.{tail_rises, narrowed-rank, rank-narrowed}

-- each number is below those behind it
pub rising_pair : (xs : List ℕ) (i j : ℕ) → is_rising xs ≡ true → i < j → j < length xs → slice_index xs i < slice_index xs j
rising_pair [] i j e h k = absurd (omega arith)
rising_pair (x ∷ []) i j e h k = absurd (omega arith)
rising_pair (x ∷ y ∷ ys) i zero e h k = absurd (omega arith)
rising_pair (x ∷ y ∷ ys) zero (suc zero) e h k = ltb-true x y (and_parts _ _ e).0
rising_pair (x ∷ y ∷ ys) zero (suc (suc j)) e h k =
    let first : x < y = ltb-true x y (and_parts _ _ e).0 in
    let later = rising_pair (y ∷ ys) zero (suc j) (tail_rises x (y ∷ ys) e) (omega arith) (omega arith) in
    omega arith
rising_pair (x ∷ y ∷ ys) (suc i) (suc j) e h k = rising_pair (y ∷ ys) i j (tail_rises x (y ∷ ys) e) (omega arith) (omega arith)

-- half way between two places
abbrev pub middle : ℕ → ℕ → ℕ
middle low high = low + (high - low) / 2

module _ (xs : List ℕ) (target : ℕ) where
  -- ---- by two places

  pub narrowed_all : (n : ℕ) → n ≡ length xs → IsNarrowed xs target 0 n
  narrowed_all n e = record {
    ordered = omega arith;
    within = omega arith;
    below = λ i h. absurd (omega arith);
    above = λ i h k. absurd (omega arith);
  }

  -- a search that has nothing left stands at the rank
  pub narrowed_done : (low high : ℕ) → high ≤ low → IsNarrowed xs target low high → low ≡ rank xs target
  narrowed_done low high h s =
      let ordered = s.ordered in
      let same : high ≡ low = omega arith in
      narrowed-rank xs target low (subst (λ k. IsNarrowed xs target low k) same s)

  -- a number between both places is compared
  module _ (low high m number : ℕ) (e : is_rising xs ≡ true) (s : IsNarrowed xs target low high) (from : low ≤ m)
      (upto : m < high) (read : slice_get xs m ≡ Some number) where
    at : slice_index xs m ≡ number
    at = get_or_from_slice_get xs m number 0 read

    -- where the middle is below the target, the search goes on behind it
    pub narrowed_less : number < target → IsNarrowed xs target (m + 1) high
    narrowed_less less =
        let within = s.within in
        record {
          ordered = omega arith;
          within = within;
          below = λ i h. elim (cases_lt i m) [
            | inl before ↦ let earlier = rising_pair xs i m e before (omega arith) in omega (arith, at)
            | inr behind ↦ let same : m ≡ i = omega arith in subst (λ k. slice_index xs k < target) same (omega (arith, at))
          ];
          above = s.above;
        }

    -- where the middle isn't below the target, the search goes on before it
    pub narrowed_not_less : target ≤ number → IsNarrowed xs target low m
    narrowed_not_less more =
        let within = s.within in
        record {
          ordered = from;
          within = omega arith;
          below = s.below;
          above = λ i h k. elim (cases_lt m i) [
            | inl behind ↦ let later = rising_pair xs m i e behind k in omega (arith, at)
            | inr before ↦ let same : m ≡ i = omega arith in subst (λ j. target ≤ slice_index xs j) same (omega (arith, at))
          ];
        }

-- ---- from a place on

-- no number is below 0
pub rank_of_zero : (xs : List ℕ) → 0 ≡ rank xs 0
rank_of_zero xs = narrowed-rank xs 0 0 (record {
  ordered = omega arith;
  within = omega arith;
  below = λ i h. absurd (omega arith);
  above = λ i h k. omega arith;
})

module _ (xs : List ℕ) (at next old target : ℕ) (e : is_rising xs ≡ true) (ranked : at ≡ rank xs old) (on : old ≤ target) where
  parts : IsNarrowed xs old at at
  parts = rank-narrowed xs old at e ranked

  -- a later target stands no earlier
  pub narrowed_from : IsNarrowed xs target at (length xs)
  narrowed_from =
      let within = parts.within in
      record {
        ordered = within;
        within = omega arith;
        below = λ i h. let earlier = parts.below i h in omega arith;
        above = λ i h k. absurd (omega arith);
      }

  -- it stands at the same place up to the next number
  pub rank_kept : next ≡ slice_index_or xs at (2 ^ 64 - 1) → target ≤ next → at ≡ rank xs target
  rank_kept first h =
      let above : (i : ℕ) → at ≤ i → i < length xs → target ≤ slice_index xs i = λ i k l.
      let here : slice_index_or xs at (2 ^ 64 - 1) ≡ slice_index xs at = get_or_default xs at (2 ^ 64 - 1) 0 (omega arith) in
      elim (cases_lt at i) [
        | inl behind ↦ let later = rising_pair xs at i e behind l in omega (arith, first, here)
        | inr not_behind ↦ let same : at ≡ i = omega arith in subst (λ j. target ≤ slice_index xs j) same (omega (arith, first, here))
      ] in
      narrowed-rank xs target at (record {
        ordered = omega arith;
        within = parts.within;
        below = narrowed_from.below;
        above = above;
      })

-- one number further
pub rank_of_next : (xs : List ℕ) (at next old : ℕ) → is_rising xs ≡ true → at ≡ rank xs old
    → next ≡ slice_index_or xs at (2 ^ 64 - 1) → next < 2 ^ 64 - 1
    → (at < length xs) × (at + 1 ≡ rank xs (next + 1))
rank_of_next xs at next old e ranked first h = elim (cases_lt at (length xs)) [
  | inl inside ↦
      let here : slice_index_or xs at (2 ^ 64 - 1) ≡ slice_index xs at = get_or_default xs at (2 ^ 64 - 1) 0 inside in (
        inside,
        narrowed-rank xs (next + 1) (at + 1) (record {
          ordered = omega arith;
          within = omega arith;
          below = λ i k. elim (cases_lt i at) [
            | inl before ↦ let earlier = rising_pair xs i at e before inside in omega (arith, first, here)
            | inr behind ↦ let same : at ≡ i = omega arith in subst (λ j. slice_index xs j < next + 1) same (omega (arith, first, here))
          ];
          above = λ i k l. let later = rising_pair xs at i e (omega arith) l in omega (arith, first, here);
        }),
      )
  | inr outside ↦ let past : slice_index_or xs at (2 ^ 64 - 1) ≡ 2 ^ 64 - 1 =
      get_or_past xs at (2 ^ 64 - 1) outside in absurd (omega (arith, first, past))
]
