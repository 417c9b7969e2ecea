-- How many start offsets are at or before positions that follow one another, by a block of them.
use Rattle.std.proofs.Common.{◌≡◌, ℕ, zero, suc, ◌+◌, ◌-◌, ◌<◌, ◌≤◌, true, cond, List, length, take, drop, get_or, sum, sym, ap, ◌∙◌, inl, inr, arith, add-one}
use Rattle.std.proofs.lemmas.Bool.{cases_lt, cases_Bool, false_from_ne_true, true≢false}
use Rattle.std.proofs.lemmas.List.{get_or-take, get_or-drop}
use Rattle.std.proofs.lemmas.List.Sums.{sum_by_more}
use Rattle.col_common.specs.Ascending.{is_rising}
use Rattle.col_model.specs.Positions.{rank}
use Rattle.col_index.specs.Sets.{holds}
use Rattle.col_index.proofs.RankLaws.{from_rank, rank-monotone, rank-le-length}
use Rattle.col_index.proofs.HeldLaws.{holds-at, holds_index, holds-rank, rank-next}
use Rattle.col_index.proofs.SearchLemmas.{rising_pair}

module _ (starts block : List ℕ) (first behind : ℕ) (e : is_rising starts ≡ true)
    (ranked : first ≡ rank starts behind) (cut : block ≡ take (length block) (drop first starts))
    (within : first + length block ≤ length starts) where
  -- a number of the block is one of the list
  block_at : (k : ℕ) → k < length block → get_or block k 0 ≡ get_or starts (first + k) 0
  block_at k h = ap (λ xs. get_or xs k 0) cut ∙ get_or-take (length block) (drop first starts) k 0 h ∙ get_or-drop first starts k 0

  -- none of them is below the number behind the position
  pub block-behind : (k : ℕ) → k < length block → behind ≤ get_or block k 0
  block-behind k h =
      let above = from_rank starts behind (first + k) e (omega (arith, ranked)) (omega arith) in omega
      (arith, above, block_at k h)

  module _ (q : ℕ) (from : behind ≤ q) (some : 0 < length block) (upto : q ≤ get_or block (length block - 1) 0) where
    block-listed : holds block q ≡ true → holds starts q ≡ true
    block-listed h =
        let i = holds_index block q h in
        ap (holds starts) (sym (sym (block_at i.0 i.1) ∙ i.2)) ∙ holds-at starts (first + i.0) (omega (arith, i.1))

    listed-block : holds starts q ≡ true → holds block q ≡ true
    listed-block h =
        let found = holds-rank starts q e h in
        let m = rank starts q in
        let low : first ≤ m = omega (arith, ranked, rank-monotone starts behind q from) in
        let high : m < first + length block = elim (cases_lt m (first + length block)) [
          | inl b ↦ b
          | inr a ↦
              let up = rising_pair starts (first + (length block - 1)) m e (omega arith) found.0 in
              absurd (omega (arith, up, found.1, upto, block_at (length block - 1) (omega arith)))
        ] in
        let k = m - first in
        let same : first + k ≡ m = omega arith in
        let here : get_or block k 0 ≡ q = block_at k (omega arith) ∙ ap (λ n. get_or starts n 0) same ∙ found.1 in
        ap (holds block) (sym here) ∙ holds-at block k (omega arith)

    -- the block has a number as far as it goes where the list has
    block-holds : holds block q ≡ holds starts q
    block-holds = elim (cases_Bool (holds block q)) [
      | inl t ↦ t ∙ sym (block-listed t)
      | inr f ↦ f ∙ sym (false_from_ne_true _ (λ h. true≢false (sym (listed-block h) ∙ f)))
    ]

  module _ (some : 0 < length block) (marks : List ℕ) (len : ℕ) (room : len ≤ length marks)
      (reach : behind + len ≤ get_or block (length block - 1) 0 + 1) (noted : (i : ℕ) → i < len
      → get_or marks i 0 ≡ cond (holds block (behind + i)) 1 0) where
    -- marks added up are ranks
    pub marks-ranked : (i : ℕ) → i ≤ len → first + sum (take i marks) ≡ rank starts (behind + i)
    marks-ranked zero h = let here : behind + 0 ≡ behind = omega arith in omega (arith, ranked, ap (rank starts) here)
    marks-ranked (suc i) h =
        let more : sum (take (i + 1) marks) ≡ sum (take i marks) + get_or marks i 0 = sum_by_more (λ n. n) marks i 0 (omega arith) in
        let held = noted i (omega arith) ∙ ap (λ b. cond b 1 0) (block-holds (behind + i) (omega arith) some (omega arith)) in
        let next = rank-next starts (behind + i) e in
        let before = marks-ranked i (omega arith) in
        let here : behind + i + 1 ≡ behind + suc i = omega arith in
        let there : i + 1 ≡ suc i = add-one i in
        let far : first + sum (take (i + 1) marks) ≡ rank starts (behind + i + 1) = omega (arith, more, before, held, next) in
        ap (λ n. first + sum (take n marks)) (sym there) ∙ far ∙ ap (rank starts) here

    -- and fit where the list is short
    pub marks-fit : (i : ℕ) → i ≤ len → first + sum (take i marks) ≤ length starts
    marks-fit i h = omega (arith, marks-ranked i h, rank-le-length starts (behind + i))
