-- Ranges of positions, by ranks and start offsets.
use Rattle.std.proofs.Common.{◌≡◌, ℕ, ◌+◌, ◌<◌, ◌≤◌, true, false, cond, List, length, get_or, slice_get, Some, sym, ap, ◌∙◌, arith}
use Rattle.std.proofs.lemmas.Bool.{lt-ltb, le-ltb, false_from_ne_true}
use Rattle.std.proofs.lemmas.Option.{get_or_from_slice_get, slice_get_within}
use Rattle.col_common.specs.Ascending.{is_rising}
use Rattle.col_model.specs.Index.{RowOffsets, offset_counts}
use Rattle.col_model.specs.Positions.{rank, start_of, index_range}
use Rattle.col_index.specs.Offsets.{AreOffsets}
use Rattle.col_index.specs.Sets.{holds}
use Rattle.col_index.proofs.RankLaws.{rows_rise}
use Rattle.col_index.proofs.HeldLaws.{holds-rank, rank-holds, rank-next}
use Rattle.col_index.proofs.CountLaws.{offset_counts-start, length-offset_counts}

-- ---- whether the row of a rank is the row that was looked for

-- no row has the rank
pub past-free : (rows : List ℕ) (row : ℕ) → is_rising rows ≡ true → length rows ≤ rank rows row → holds rows row ≡ false
past-free rows row e h = false_from_ne_true _ (λ held. omega (arith, (holds-rank rows row e held).0))

module _ (rows : List ℕ) (row found : ℕ) (k : ℕ) (e : is_rising rows ≡ true) (r : k ≡ rank rows row)
    (read : slice_get rows k ≡ Some found) where
  at_rank : get_or rows (rank rows row) 0 ≡ found
  at_rank = ap (λ n. get_or rows n 0) (sym r) ∙ get_or_from_slice_get rows k found 0 read

  -- another row was found there
  pub other-free : (found ≡ row → ⊥) → holds rows row ≡ false
  other-free n = false_from_ne_true _ (λ held. n (sym at_rank ∙ (holds-rank rows row e held).1))

  -- the row itself was found there
  pub same-held : found ≡ row → holds rows row ≡ true
  same-held s = rank-holds rows row (omega (arith, slice_get_within rows k found read)) (at_rank ∙ s)

-- behind a row without values the rank is the same
pub rank-behind_free : (rows : List ℕ) (row : ℕ) → is_rising rows ≡ true → holds rows row ≡ false → rank rows (row + 1) ≡ rank rows row
rank-behind_free rows row e h = rank-next rows row e ∙ ap (λ b. rank rows row + cond b 1 0) h ∙ omega arith

-- behind a row with values it is one more
pub rank-behind_held : (rows : List ℕ) (row : ℕ) → is_rising rows ≡ true → holds rows row ≡ true → rank rows (row + 1) ≡ rank rows row + 1
rank-behind_held rows row e h = rank-next rows row e ∙ ap (λ b. rank rows row + cond b 1 0) h

-- ---- ranges

module _ (o : RowOffsets) (a : AreOffsets o) (row : ℕ) where
  -- a number that is no row
  pub range-outside : o.set.num_rows ≤ row → index_range (offset_counts o) row ≡ (0, 0)
  range-outside h =
      ap (λ b. cond b (start_of (offset_counts o) row, start_of (offset_counts o) (row + 1)) (0, 0))
      (le-ltb row (length (offset_counts o)) (omega (arith, length-offset_counts o)))

  module _ (h : row < o.set.num_rows) where
    inside : index_range (offset_counts o) row ≡ (start_of (offset_counts o) row, start_of (offset_counts o) (row + 1))
    inside =
        ap (λ b. cond b (start_of (offset_counts o) row, start_of (offset_counts o) (row + 1)) (0, 0))
        (lt-ltb row (length (offset_counts o)) (omega (arith, length-offset_counts o)))

    module _ (k place : ℕ) (r : k ≡ rank o.set.rows row) where
      -- the start is the offset of the rank
      pub range-start : place ≡ get_or o.starts k 0 → place ≡ (index_range (offset_counts o) row).0
      range-start s = s ∙ ap (λ n. get_or o.starts n 0) r ∙ sym (ap (λ p. p.0) inside ∙ offset_counts-start o a row)

      behind : (next : ℕ) → next ≡ rank o.set.rows (row + 1) → place ≡ get_or o.starts next 0
          → place ≡ (index_range (offset_counts o) row).1
      behind next q s = s ∙ ap (λ n. get_or o.starts n 0) q ∙ sym (ap (λ p. p.1) inside ∙ offset_counts-start o a (row + 1))

      -- without values the end is the start
      pub range-end_free : holds o.set.rows row ≡ false → place ≡ get_or o.starts k 0 → place ≡ (index_range (offset_counts o) row).1
      range-end_free f = behind k (r ∙ sym (rank-behind_free o.set.rows row (rows_rise o.set a.rows) f))

      -- with values it is the next offset
      pub range-end_held : holds o.set.rows row ≡ true → place ≡ get_or o.starts (k + 1) 0 → place ≡ (index_range (offset_counts o) row).1
      range-end_held f = behind (k + 1) (ap (λ n. n + 1) r ∙ sym (rank-behind_held o.set.rows row (rows_rise o.set a.rows) f))
