-- Rows with a value, by the start offsets of all rows.
use Rattle.std.proofs.Common.{◌≡◌, ℕ, ◌+◌, ◌-◌, ◌<◌, ◌≤◌, ◌==◌, not, nat_lt, true, false, List, [], ◌∷◌, length, take, get_or, slice_get, Some, None, sum, min, inl, inr, sym, ap, ◌∙◌, subst, add-one, arith}
use Rattle.std.proofs.lemmas.Bool.{eq-eqb, ne_eqb, ltb-true, true≢false, cases_lt}
use Rattle.std.proofs.lemmas.List.{take_all}
use Rattle.std.proofs.lemmas.Option.{slice_get-get_or, slice_get_past}
use Rattle.col_common.specs.Ascending.{is_rising, is_never_falling, differences}
use Rattle.col_model.specs.Index.{are_offsets}
use Rattle.col_model.specs.Positions.{rank, start_of, rows_with_value, next_row, starts_of, index_range}
use Rattle.col_index.specs.Offsets.{AreOffsets, AreOldOffsets}
use Rattle.col_index.specs.Sets.{holds}
use Rattle.col_index.proofs.RankLaws.{rows_rise, narrowed-rank, next_row-rank}
use Rattle.col_index.proofs.HeldLaws.{holds-rank}
use Rattle.col_index.proofs.DifferenceLaws.{sum-differences, get_or-differences}
use Rattle.col_index.proofs.CountLaws.{rows_below, offset_starts, offset_counts-start, offset_counts-some}
use Rattle.col_index.proofs.IndexedLaws.{set_of_counts, offsets_of_counts, counts-are_rows, counts-are_offset_counts}
use Rattle.col_index.proofs.OldStartLemmas.{length-counts_between, old-are_offsets}
use Rattle.col_index.proofs.RangeLaws.{range-inside}
use Rattle.col_index.proofs.RunLemmas.{next_offset}
use Rattle.col_index.proofs.RangeLemmas.{rank-behind_free, rank-behind_held}
use Rattle.col_index.proofs.StartLemmas.{offsets-zeroth, passes_at}

-- ---- any counts

-- the rows with a value rise
pub valued_rise : (cs : List ℕ) → is_rising (rows_with_value cs) ≡ true
valued_rise cs = rows_rise (set_of_counts cs) (counts-are_rows cs)

-- the next row with a value is that of the rank
pub valued_next : (cs : List ℕ) (t : ℕ) → next_row (rows_with_value cs) t ≡ slice_get (rows_with_value cs) (rank (rows_with_value cs) t)
valued_next cs t = next_row-rank (rows_with_value cs) t (valued_rise cs)

-- from the end on no row with a value is left
pub valued_past : (cs : List ℕ) (row : ℕ) → length cs ≤ row → rank (rows_with_value cs) row ≡ length (rows_with_value cs)
valued_past cs row h = sym (narrowed-rank (rows_with_value cs) row (length (rows_with_value cs)) (record {
  ordered = omega arith;
  within = omega arith;
  below = λ i k.
      let low = ltb-true _ _ (passes_at (λ r. nat_lt r (length cs)) (rows_with_value cs) i
      (rows_below (set_of_counts cs) (counts-are_rows cs)) k) in
      omega (arith, low);
  above = λ i k l. absurd (omega arith);
}))

-- ---- the counts that offsets are apart

module _ (xs : List ℕ) (old : AreOldOffsets xs) where
  abbrev counts : List ℕ
  counts = differences xs

  abbrev rows : List ℕ
  rows = rows_with_value counts

  -- there is an offset more than rows
  pub old-long : length xs ≡ length counts + 1
  old-long = go xs old.offsets (length-counts_between xs)
    where
      go : (ys : List ℕ) → are_offsets ys ≡ true → length (differences ys) ≡ length ys - 1 → length ys ≡ length (differences ys) + 1
      go [] e h = absurd (true≢false (sym e))
      go (y ∷ ys) e h = omega (arith, h)

  -- the values of a row start at its offset
  pub old-start : (row : ℕ) → row ≤ length counts → start_of counts row ≡ get_or xs row 0
  old-start row h = go xs old.never_fall (offsets-zeroth xs old.offsets) (omega (arith, old-long))
    where
      go : (ys : List ℕ) → is_never_falling ys ≡ true → get_or ys 0 0 ≡ 0 → row < length ys
          → sum (take row (differences ys)) ≡ get_or ys row 0
      go [] e z k = absurd (omega arith)
      go (y ∷ ys) e z k = omega (arith, z, sum-differences y ys row e (omega arith))

  -- all values end at the last offset
  pub old-sum : sum counts ≡ get_or xs (length counts) 0
  old-sum = ap sum (sym (take_all (length counts) counts (omega arith))) ∙ old-start (length counts) (omega arith)

  -- from the end on no values start
  pub old-start_past : (row : ℕ) → length counts ≤ row → start_of counts row ≡ get_or xs (length counts) 0
  old-start_past row h = ap sum (take_all row counts h) ∙ old-sum

  -- the values before any number end at the offset of the row, or at the last
  pub old-start_least : (row k : ℕ) → k ≡ min row (length counts) → get_or xs k 0 ≡ start_of counts row
  old-start_least row k e = elim (cases_lt row (length counts)) [
    | inl below ↦ (let same : k ≡ row = omega arith in ap (λ n. get_or xs n 0) same ∙ sym (old-start row (omega arith)))
    | inr past ↦ (let same : k ≡ length counts = omega arith in ap (λ n. get_or xs n 0) same ∙ sym (old-start_past row past))
  ]

  -- a row has as many values as its offsets are apart
  pub old-count : (row : ℕ) → row < length counts → get_or counts row 0 ≡ get_or xs (row + 1) 0 - get_or xs row 0
  old-count row h =
      get_or-differences xs row (omega (arith, old-long)) ∙ ap (λ n. get_or xs n 0 - get_or xs row 0) (sym (add-one row))

  -- the next offset is no less
  pub old-up : (row : ℕ) → row < length counts → get_or xs row 0 ≤ get_or xs (row + 1) 0
  old-up row h =
      let up = next_offset xs row old.never_fall (omega (arith, old-long)) in
      subst (λ n. get_or xs row 0 ≤ get_or xs n 0) (sym (add-one row)) up

  -- the positions of a row that is there
  pub old-range : (row : ℕ) → row < length counts → index_range counts row ≡ (get_or xs row 0, get_or xs (row + 1) 0)
  old-range row h =
      range-inside counts row h
      ∙ ap (λ n. (n, start_of counts (row + 1))) (old-start row (omega arith))
      ∙ ap (λ n. (get_or xs row 0, n)) (old-start (row + 1) (omega arith))

  -- ---- rows with a value

  own : AreOffsets (offsets_of_counts counts)
  own = old-are_offsets xs old

  -- a row is one of them exactly where its count isn't 0
  old-holds : (row : ℕ) → not (get_or counts row 0 == 0) ≡ holds rows row
  old-holds row =
      ap (λ cs. not (get_or cs row 0 == 0)) (sym (counts-are_offset_counts counts))
      ∙ offset_counts-some (offsets_of_counts counts) own row

  module _ (row : ℕ) (within : row < length counts) where
    -- a row whose offsets are equal has none
    pub run-free : get_or xs (row + 1) 0 ≡ get_or xs row 0 → rank rows (row + 1) ≡ rank rows row
    run-free e =
        let none : (get_or counts row 0 == 0) ≡ true = eq-eqb _ _ (omega (arith, old-count row within, e)) in
        rank-behind_free rows row (valued_rise counts) (sym (old-holds row) ∙ ap not none)

    -- a row whose offsets differ has some
    pub run-held : (get_or xs (row + 1) 0 ≡ get_or xs row 0 → ⊥) → holds rows row ≡ true
    run-held n =
        let some : (get_or counts row 0 == 0) ≡ false =
        ne_eqb _ _ (λ z. n (omega (arith, old-count row within, old-up row within, z))) in
        sym (old-holds row) ∙ ap not some

    -- it has its rank
    run-row : holds rows row ≡ true → slice_get rows (rank rows row) ≡ Some row
    run-row h =
        let at = holds-rank rows row (valued_rise counts) h in
        slice_get-get_or rows (rank rows row) 0 at.0 ∙ ap Some at.1

    -- its values end at the next offset
    run-end : holds rows row ≡ true → slice_get (starts_of counts) (rank rows row + 1) ≡ Some (get_or xs (row + 1) 0)
    run-end h =
        let at = holds-rank rows row (valued_rise counts) h in
        let next = rank-behind_held rows row (valued_rise counts) h in
        let long = (offset_starts (offsets_of_counts counts) own).long in
        let here : get_or (starts_of counts) (rank rows row + 1) 0 ≡ get_or xs (row + 1) 0 =
        ap (λ n. get_or (starts_of counts) n 0) (sym next)
        ∙ sym (offset_counts-start (offsets_of_counts counts) own (row + 1))
        ∙ ap (λ cs. start_of cs (row + 1)) (counts-are_offset_counts counts)
        ∙ old-start (row + 1) (omega arith) in
        slice_get-get_or (starts_of counts) (rank rows row + 1) 0 (omega (arith, long, at.0)) ∙ ap Some here

  -- the first row whose offsets differ, in a walk from a row whose rank is the same
  module _ (from row start end : ℕ) (within : row < length counts) (ranked : rank rows row ≡ rank rows from)
      (level : row ≤ length counts → get_or xs row 0 ≡ start) (next : end ≡ get_or xs (row + 1) 0) (other : end ≡ start → ⊥) where
    found : holds rows row ≡ true
    found = run-held row within (λ e. other (next ∙ e ∙ level (omega arith)))

    -- it is the next one with a value
    pub found-row : Some row ≡ slice_get rows (rank rows from)
    found-row = sym (ap (slice_get rows) (sym ranked) ∙ run-row row within found)

    -- and its values end there
    pub found-end : Some end ≡ slice_get (starts_of counts) (rank rows from + 1)
    found-end =
        ap Some next ∙ sym (ap (λ k. slice_get (starts_of counts) (k + 1)) (sym ranked) ∙ run-end row within found)

  -- from the end on there is no row
  pub run-row_past : (row : ℕ) → length counts ≤ row → slice_get rows (rank rows row) ≡ None
  run-row_past row h = slice_get_past rows (rank rows row) (omega (arith, valued_past counts row h))

  -- and no end of one
  pub run-end_past : (row : ℕ) → length counts ≤ row → slice_get (starts_of counts) (rank rows row + 1) ≡ None
  run-end_past row h =
      let long = (offset_starts (offsets_of_counts counts) own).long in
      slice_get_past (starts_of counts) (rank rows row + 1) (omega (arith, long, valued_past counts row h))
