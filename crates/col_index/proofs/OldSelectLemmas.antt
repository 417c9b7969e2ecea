-- The rows that have positions, by a walk over the start offsets of all rows.
use Rattle.std.proofs.Common.{◌≡◌, ℕ, ◌+◌, ◌-◌, ◌<◌, ◌≤◌, nat_le, true, List, [], ◌∷◌, ◌++◌, length, take, get_or, sum, refl, sym, ap, ◌∙◌, subst, arith}
use Rattle.std.specs.List.{list_all}
use Rattle.std.proofs.lemmas.Bool.{leb-true}
use Rattle.col_common.specs.Ascending.{is_rising, differences, AreBelow}
use Rattle.col_model.specs.Index.{offset_counts}
use Rattle.col_model.specs.Positions.{rank, start_of, rows_at, rows_with_value, starts_of}
use Rattle.col_index.specs.Offsets.{AreOffsets, AreOldOffsets}
use Rattle.col_index.specs.Sets.{holds}
use Rattle.col_index.proofs.RankLaws.{rank-at, rank-monotone, rank-le-length, below_at}
use Rattle.col_index.proofs.HeldLaws.{holds-at, holds-rank}
use Rattle.col_index.proofs.CountLaws.{offset_starts, offset_counts-start}
use Rattle.col_index.proofs.IndexedLaws.{offsets_of_counts, counts-are_offset_counts, starts-rise}
use Rattle.col_index.proofs.OldRowLemmas.{old-start, valued_rise, run-held}
use Rattle.col_index.proofs.OldStartLemmas.{old-are_offsets}
use Rattle.col_index.proofs.RangeLemmas.{rank-behind_held}
use Rattle.col_index.proofs.RowsAtLemmas.{after, after-more, select-same, select-next}
use Rattle.col_index.proofs.SearchLemmas.{rising_pair}
use Rattle.col_index.proofs.StartLemmas.{passes_at}

-- a walk stands at a row: its offset is behind the first positions, and the later positions before
-- it are in the row of the last of these
pub record IsWalked (xs ps : List ℕ) (at doc end : ℕ) : Type 0 where
  pub within : doc ≤ length (differences xs)
  pub stop : end ≡ get_or xs doc 0
  pub before : after at ps ≤ end
  pub same : (i : ℕ) → at ≤ i → i < length ps → get_or ps i 0 < end
      → rank (starts_of (differences xs)) (get_or ps i 0 + 1) ≡ rank (starts_of (differences xs)) (after at ps)

-- a row has a position
pub record HasPosition (xs : List ℕ) (row position : ℕ) : Type 0 where
  pub inside : row < length (differences xs)
  pub low : get_or xs row 0 ≤ position
  pub high : position < get_or xs (row + 1) 0

module _ (xs : List ℕ) (old : AreOldOffsets xs) where
  abbrev counts : List ℕ
  counts = differences xs

  abbrev rows : List ℕ
  rows = rows_with_value counts

  abbrev starts : List ℕ
  starts = starts_of counts

  own : AreOffsets (offsets_of_counts counts)
  own = old-are_offsets xs old

  many : length starts ≡ length rows + 1
  many = let long = (offset_starts (offsets_of_counts counts) own).long in omega (arith, long)

  -- the start of a row's rank is its offset
  ranked_start : (row : ℕ) → row ≤ length counts → get_or starts (rank rows row) 0 ≡ get_or xs row 0
  ranked_start row h =
      sym (offset_counts-start (offsets_of_counts counts) own row)
      ∙ ap (λ cs. start_of cs row) (counts-are_offset_counts counts)
      ∙ old-start xs old row h

  -- so many starts are before it
  starts_before : (row : ℕ) → row ≤ length counts → rank starts (get_or xs row 0) ≡ rank rows row
  starts_before row h =
      ap (rank starts) (sym (ranked_start row h))
      ∙ rank-at starts (rank rows row) (starts-rise counts) (omega (arith, many, rank-le-length rows row))

  -- and one more are at or before it
  starts_upto : (row : ℕ) → row ≤ length counts → rank starts (get_or xs row 0 + 1) ≡ rank rows row + 1
  starts_upto row h =
      let inside : rank rows row < length starts = omega (arith, many, rank-le-length rows row) in
      let held : holds starts (get_or xs row 0) ≡ true =
      ap (holds starts) (sym (ranked_start row h)) ∙ holds-at starts (rank rows row) inside in
      rank-behind_held starts (get_or xs row 0) (starts-rise counts) held ∙ ap (λ n. n + 1) (starts_before row h)

  -- a row with a position has a value
  position-held : (row p : ℕ) → HasPosition xs row p → holds rows row ≡ true
  position-held row p h = run-held xs old row h.inside (λ e. omega (arith, h.low, h.high, e))

  -- the starts at or before a position are those up to its row
  position-started : (row p : ℕ) → HasPosition xs row p → rank starts (p + 1) ≡ rank rows row + 1
  position-started row p h =
      let low = rank-monotone starts (get_or xs row 0 + 1) (p + 1) (omega (arith, h.low)) in
      let high = rank-monotone starts (p + 1) (get_or xs (row + 1) 0) (omega (arith, h.high)) in
      let next = rank-behind_held rows row (valued_rise counts) (position-held row p h) in
      omega (
        arith,
        low,
        high,
        next,
        starts_upto row (omega (arith, h.inside)),
        starts_before (row + 1) (omega (arith, h.inside)),
      )

  -- ---- positions, one after another

  module _ (ps : List ℕ) where
    -- at first the walk stands at the start, and no position is before this
    pub walked-first : (start doc end : ℕ) → doc ≤ length counts → end ≡ get_or xs doc 0 → start_of counts start ≡ end
        → list_all (λ p. nat_le (start_of counts start) p) ps ≡ true → IsWalked xs ps 0 doc end
    walked-first start doc end h s e all = record {
      within = h;
      stop = s;
      before = omega arith;
      same = λ i from upto low.
          let above = leb-true _ _ (passes_at (λ p. nat_le (start_of counts start) p) ps i all upto) in
          absurd (omega (arith, above, e, low));
    }

    module _ (at doc end : ℕ) (up : is_rising ps ≡ true) (inside : at < length ps)
        (below : AreBelow (sum counts) ps) (w : IsWalked xs ps at doc end) where
      abbrev position : ℕ
      position = get_or ps at 0

      passed : after (at + 1) ps ≡ position + 1
      passed = sym (after-more ps at position refl)

      counted : position < sum (offset_counts (offsets_of_counts counts))
      counted = subst (λ cs. position < sum cs) (sym (counts-are_offset_counts counts)) (below_at (sum counts) ps at below inside)

      -- a position before the offset is in the row of the one before
      pub walked-same_rows : position < end → rows_at counts (take (at + 1) ps) ≡ rows_at counts (take at ps)
      walked-same_rows h =
          subst (λ cs. rows_at cs (take (at + 1) ps) ≡ rows_at cs (take at ps)) (counts-are_offset_counts counts)
          (select-same (offsets_of_counts counts) own ps at up inside counted (w.same at (omega arith) inside h))

      pub walked-same : position < end → IsWalked xs ps (at + 1) doc end
      walked-same h = record {
        within = w.within;
        stop = w.stop;
        before = omega (arith, passed);
        same = λ i from upto low.
            w.same i (omega arith) upto low ∙ sym (w.same at (omega arith) inside h) ∙ ap (rank starts) (sym passed);
      }

      -- another is in a later row
      other : end ≤ position → rank starts (position + 1) ≡ rank starts (after at ps) → ⊥
      other h e =
          let low = rank-monotone starts (after at ps) (get_or xs doc 0) (omega (arith, w.before, w.stop)) in
          let high = rank-monotone starts (get_or xs doc 0 + 1) (position + 1) (omega (arith, w.stop)) in
          omega (arith, e, low, high, starts_before doc w.within, starts_upto doc w.within)

      module _ (row : ℕ) (h : HasPosition xs row position) where
        found : get_or rows (rank starts (position + 1) - 1) 0 ≡ row
        found =
            let place : rank starts (position + 1) - 1 ≡ rank rows row = omega (arith, position-started row position h) in
            ap (λ k. get_or rows k 0) place ∙ (holds-rank rows row (valued_rise counts) (position-held row position h)).1

        pub walked-next_rows : end ≤ position
            → rows_at counts (take (at + 1) ps) ≡ rows_at counts (take at ps) ++ row ∷ []
        walked-next_rows far =
            subst (λ cs. rows_at cs (take (at + 1) ps)
            ≡ rows_at cs (take at ps) ++ get_or rows (rank starts (position + 1) - 1) 0 ∷ []) (counts-are_offset_counts counts)
            (select-next (offsets_of_counts counts) own ps at up inside counted (other far))
            ∙ ap (λ r. rows_at counts (take at ps) ++ r ∷ []) found

        pub walked-next : (next stop : ℕ) → next ≡ row + 1 → stop ≡ get_or xs next 0 → IsWalked xs ps (at + 1) next stop
        walked-next next stop n s =
            let upper : stop ≡ get_or xs (row + 1) 0 = s ∙ ap (λ k. get_or xs k 0) n in
            record {
              within = omega (arith, n, h.inside);
              stop = s;
              before = omega (arith, passed, upper, h.high);
              same = λ i from upto low.
                  let later = rising_pair ps at i up (omega arith) upto in
                  let here : HasPosition xs row (get_or ps i 0) = record {
                    inside = h.inside;
                    low = omega (arith, h.low, later);
                    high = omega (arith, low, upper);
                  } in
                  position-started row (get_or ps i 0) here
                  ∙ sym (position-started row position h)
                  ∙ ap (rank starts) (sym passed);
            }
