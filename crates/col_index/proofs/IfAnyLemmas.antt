-- Positions of a row's values, and none of a row without.
use Rattle.std.proofs.Common.{◌≡◌, ℕ, ◌+◌, ◌<◌, ◌==◌, true, false, cond, not, get_or, Some, sym, ap, ◌∙◌}
use Rattle.std.proofs.lemmas.Option.{slice_get-get_or}
use Rattle.col_model.specs.Index.{RowSet, RowOffsets, set_counts, offset_counts}
use Rattle.col_model.specs.Positions.{rank, index_range}
use Rattle.col_index.specs.Offsets.{AreOffsets, range_if_any}
use Rattle.col_index.specs.Sets.{AreRows, holds}
use Rattle.col_index.proofs.RankLaws.{rows_rise}
use Rattle.col_index.proofs.HeldLaws.{holds-rank}
use Rattle.col_index.proofs.CountLaws.{set_counts-at, offset_counts-none}
use Rattle.col_index.proofs.SetLemmas.{row_below}
use Rattle.col_index.proofs.RangeLemmas.{range-start, range-end_held}
use Rattle.col_index.proofs.RowRangeLemmas.{range_start, range_end-held}

-- a row with a value is a row
held-below : (s : RowSet) (row : ℕ) → AreRows s → holds s.rows row ≡ true → row < s.num_rows
held-below s row a h =
    let at = holds-rank s.rows row (rows_rise s a) h in
    row_below s (rank s.rows row) row a (slice_get-get_or s.rows (rank s.rows row) 0 at.0 ∙ ap Some at.1)

-- ---- at most one value

module _ (s : RowSet) (a : AreRows s) (row : ℕ) where
  one_free : holds s.rows row ≡ false → (0, 0) ≡ range_if_any (set_counts s) row
  one_free h = sym (ap (λ n. cond (n == 0) (0, 0) (index_range (set_counts s) row)) (set_counts-at s a row ∙ ap (λ b. cond b 1 0) h))

  one_held : holds s.rows row ≡ true → index_range (set_counts s) row ≡ range_if_any (set_counts s) row
  one_held h = sym (ap (λ n. cond (n == 0) (0, 0) (index_range (set_counts s) row)) (set_counts-at s a row ∙ ap (λ b. cond b 1 0) h))

  -- a row without a value has positions that begin at 0
  pub one_free-start : holds s.rows row ≡ false → 0 ≡ (range_if_any (set_counts s) row).0
  one_free-start h = ap (λ p. p.0) (one_free h)

  -- a row without a value has positions that end at 0
  pub one_free-end : holds s.rows row ≡ false → 0 ≡ (range_if_any (set_counts s) row).1
  one_free-end h = ap (λ p. p.1) (one_free h)

  module _ (k : ℕ) (r : k ≡ rank s.rows row) (h : holds s.rows row ≡ true) where
    -- the position of a row's one value is the row's rank
    pub one_held-start : k ≡ (range_if_any (set_counts s) row).0
    one_held-start = r ∙ sym (range_start s row a (held-below s row a h)) ∙ ap (λ p. p.0) (one_held h)

    -- the positions of a row's one value end one behind the row's rank
    pub one_held-end : k + 1 ≡ (range_if_any (set_counts s) row).1
    one_held-end = ap (λ n. n + 1) r ∙ sym (range_end-held s row a (held-below s row a h) h) ∙ ap (λ p. p.1) (one_held h)

-- ---- any number of values

module _ (o : RowOffsets) (a : AreOffsets o) (row : ℕ) where
  some_free : holds o.set.rows row ≡ false → (0, 0) ≡ range_if_any (offset_counts o) row
  some_free h = sym (ap (λ b. cond b (0, 0) (index_range (offset_counts o) row)) (offset_counts-none o a row ∙ ap not h))

  some_held : holds o.set.rows row ≡ true → index_range (offset_counts o) row ≡ range_if_any (offset_counts o) row
  some_held h = sym (ap (λ b. cond b (0, 0) (index_range (offset_counts o) row)) (offset_counts-none o a row ∙ ap not h))

  -- a row without values has positions that begin at 0
  pub some_free-start : holds o.set.rows row ≡ false → 0 ≡ (range_if_any (offset_counts o) row).0
  some_free-start h = ap (λ p. p.0) (some_free h)

  -- a row without values has positions that end at 0
  pub some_free-end : holds o.set.rows row ≡ false → 0 ≡ (range_if_any (offset_counts o) row).1
  some_free-end h = ap (λ p. p.1) (some_free h)

  module _ (k place : ℕ) (r : k ≡ rank o.set.rows row) (h : holds o.set.rows row ≡ true) where
    -- a row's values begin at the start offset of its rank
    pub some_held-start : place ≡ get_or o.starts k 0 → place ≡ (range_if_any (offset_counts o) row).0
    some_held-start s = range-start o a row (held-below o.set row a.rows h) k place r s ∙ ap (λ p. p.0) (some_held h)

    -- a row's values end at the start offset behind its rank
    pub some_held-end : place ≡ get_or o.starts (k + 1) 0 → place ≡ (range_if_any (offset_counts o) row).1
    some_held-end s = range-end_held o a row (held-below o.set row a.rows h) k place r h s ∙ ap (λ p. p.1) (some_held h)
