-- The rows that have positions, one position after another.
use Rattle.std.proofs.Common.{◌≡◌, ℕ, suc, ◌+◌, ◌<◌, ◌≤◌, nat_lt, nat_le, nat_eq, inl, inr, true, false, length, get_or, sum, sym, ap, ◌∙◌, arith}
use Rattle.std.proofs.lemmas.Bool.{and_parts, and_from, ltb-true, leb-true, lt-ltb, le-leb, eq-eqb, ne_eqb, cases_eq, cases_lt, cases_order, cases_Bool, false_from_ne_true}
use Rattle.col_common.specs.Ascending.{is_rising}
use Rattle.col_model.specs.Index.{RowOffsets, offset_counts}
use Rattle.col_model.specs.Positions.{rank, start_of, is_in_row}
use Rattle.col_index.specs.Offsets.{AreOffsets}
use Rattle.col_index.specs.Sets.{holds}
use Rattle.col_index.proofs.RankLaws.{rows_rise, rank-at, rank-le-length, below_rank, from_rank}
use Rattle.col_index.proofs.HeldLaws.{holds-at, holds-rank}
use Rattle.col_index.proofs.CountLaws.{offset_starts, offset_counts-start, sum-offset_counts}
use Rattle.col_index.proofs.RangeLemmas.{rank-behind_free, rank-behind_held}

-- ---- the row that has a position

module _ (o : RowOffsets) (a : AreOffsets o) (p : ℕ) where
  rises : is_rising o.starts ≡ true
  rises = (offset_starts o a).rises

  long : length o.starts ≡ suc (length o.set.rows)
  long = (offset_starts o a).long

  -- a start that counts is at or before the position
  started : (i : ℕ) → i < rank o.starts (p + 1) → get_or o.starts i 0 ≤ p
  started i h = let below = below_rank o.starts (p + 1) i rises h in omega arith

  -- and one that doesn't is behind it
  unstarted : (i : ℕ) → rank o.starts (p + 1) ≤ i → i ≤ length o.set.rows → p < get_or o.starts i 0
  unstarted i h k = let above = from_rank o.starts (p + 1) i rises h (omega (arith, long)) in omega arith

  -- the first start counts, and a position before the end is before the last
  pub some-started : 0 < rank o.starts (p + 1)
  some-started = elim (cases_lt 0 (rank o.starts (p + 1))) [
    | inl h ↦ h
    | inr h ↦ absurd (omega (arith, unstarted 0 h (omega arith), ap (λ ss. get_or ss 0 0) (offset_starts o a).first))
  ]

  -- a position below the number of values has no more starts up to it than there are rows
  pub end-unstarted : p < sum (offset_counts o) → rank o.starts (p + 1) ≤ length o.set.rows
  end-unstarted h = elim (cases_lt (length o.set.rows) (rank o.starts (p + 1))) [
    | inl b ↦ absurd (omega (arith, started (length o.set.rows) b, sum-offset_counts o a))
    | inr b ↦ b
  ]

  module _ (row : ℕ) where
    start : start_of (offset_counts o) row ≡ get_or o.starts (rank o.set.rows row) 0
    start = offset_counts-start o a row

    -- no row from the next one on has the position
    pub in_row-before : rank o.starts (p + 1) ≤ rank o.set.rows row → is_in_row (offset_counts o) p row ≡ false
    in_row-before h = false_from_ne_true _ (λ e.
        let low = leb-true _ _ (and_parts (nat_le (start_of (offset_counts o) row) p)
        (nat_lt p (start_of (offset_counts o) (row + 1))) e).0 in
        omega (arith, low, start, unstarted (rank o.set.rows row) h (rank-le-length o.set.rows row)))

    module _ (m : ℕ) (last : rank o.starts (p + 1) ≡ m + 1) (inside : m < length o.set.rows) where
      -- the row of the last start that counts has the position
      pub in_row-same : row ≡ get_or o.set.rows m 0 → is_in_row (offset_counts o) p row ≡ true
      in_row-same e =
          let here : rank o.set.rows row ≡ m = ap (rank o.set.rows) e ∙ rank-at o.set.rows m (rows_rise o.set a.rows) inside in
          let held : holds o.set.rows row ≡ true = ap (holds o.set.rows) e ∙ holds-at o.set.rows m inside in
          let next : rank o.set.rows (row + 1) ≡ m + 1 =
          rank-behind_held o.set.rows row (rows_rise o.set a.rows) held ∙ ap (λ n. n + 1) here in
          let low = started m (omega (arith, last)) in
          let high = unstarted (m + 1) (omega (arith, last)) (omega arith) in
          and_from _ _
          (le-leb (start_of (offset_counts o) row) p (omega (arith, low, start, ap (λ n. get_or o.starts n 0) here)))
          (lt-ltb p (start_of (offset_counts o) (row + 1))
          (omega (arith, high, offset_counts-start o a (row + 1), ap (λ n. get_or o.starts n 0) next)))

      -- a row with a value and its rank
      apart : (row ≡ get_or o.set.rows m 0 → ⊥) → holds o.set.rows row ≡ true
          → get_or o.starts (rank o.set.rows row) 0 ≤ p → p < get_or o.starts (rank o.set.rows row + 1) 0 → ⊥
      apart n held low high =
          let i = rank o.set.rows row in
          let found = holds-rank o.set.rows row (rows_rise o.set a.rows) held in
          elim (cases_order i m) [
            | inl e ↦ n (sym found.1 ∙ ap (λ k. get_or o.set.rows k 0) e)
            | inr (inl b) ↦ omega (arith, high, started (i + 1) (omega (arith, last)))
            | inr (inr b) ↦ omega (arith, low, unstarted i (omega (arith, last)) (omega (arith, found.0)))
          ]

      -- another row does not
      pub in_row-other : (row ≡ get_or o.set.rows m 0 → ⊥) → is_in_row (offset_counts o) p row ≡ false
      in_row-other n = false_from_ne_true _ (λ e.
          let parts = and_parts (nat_le (start_of (offset_counts o) row) p) (nat_lt p (start_of (offset_counts o) (row + 1))) e in
          let low : get_or o.starts (rank o.set.rows row) 0 ≤ p = omega (arith, leb-true _ _ parts.0, start) in
          let high : p < get_or o.starts (rank o.set.rows (row + 1)) 0 =
          omega (arith, ltb-true _ _ parts.1, offset_counts-start o a (row + 1)) in
          elim (cases_Bool (holds o.set.rows row)) [
            | inl held ↦ apart n held low (omega (
              arith,
              high,
              ap (λ k. get_or o.starts k 0)
                  (rank-behind_held o.set.rows row (rows_rise o.set a.rows) held),
            ))
            | inr free ↦ omega (
              arith,
              low,
              high,
              ap (λ k. get_or o.starts k 0) (rank-behind_free o.set.rows row
                  (rows_rise o.set a.rows) free),
            )
          ])

      -- one row alone has it
      pub in_row : is_in_row (offset_counts o) p row ≡ nat_eq row (get_or o.set.rows m 0)
      in_row = elim (cases_eq row (get_or o.set.rows m 0)) [
        | inl e ↦ in_row-same e ∙ sym (eq-eqb row (get_or o.set.rows m 0) e)
        | inr n ↦ in_row-other n ∙ sym (ne_eqb row (get_or o.set.rows m 0) n)
      ]
