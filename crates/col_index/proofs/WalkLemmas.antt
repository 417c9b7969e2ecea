-- Walks over the rows with a value, by their ranks.
use Rattle.std.proofs.Common.{◌≡◌, ℕ, ◌+◌, ◌<◌, ◌≤◌, ◌^◌, true, length, get_or, slice_get, Option, Some, None, IfSome, sym, ap, ◌∙◌, arith}
use Rattle.std.proofs.lemmas.Option.{get_or_from_slice_get, slice_get_within, slice_get-get_or, slice_get_past}
use Rattle.col_model.specs.Index.{RowSet, RowOffsets, offset_counts}
use Rattle.col_model.specs.Positions.{rank, starts_of}
use Rattle.col_index.specs.Offsets.{AreOffsets}
use Rattle.col_index.specs.Sets.{AreRows, holds}
use Rattle.col_index.specs.Walked.{IsRanked32}
use Rattle.col_index.proofs.RankLaws.{rows_rise, rank-at}
use Rattle.col_index.proofs.HeldLaws.{holds-at}
use Rattle.col_index.proofs.CountLaws.{offset_starts, offset_counts-starts}
use Rattle.col_index.proofs.RangeLemmas.{rank-behind_held}
use Rattle.col_index.proofs.SetLemmas.{row_below, few_rows}

-- ---- a row of a set

module _ (s : RowSet) (a : AreRows s) (small : s.num_rows < 2 ^ 32) (place : ℕ) where
  -- behind a row stands one row more than before it
  pub row-behind : (r : Option ℕ) → r ≡ slice_get s.rows place → IfSome r (λ row. IsRanked32 s.rows (row + 1) (place + 1))
  row-behind None e = tt
  row-behind (Some row) e =
      let inside = slice_get_within s.rows place row (sym e) in
      let here = get_or_from_slice_get s.rows place row 0 (sym e) in
      let before : rank s.rows row ≡ place = ap (rank s.rows) (sym here) ∙ rank-at s.rows place (rows_rise s a) inside in
      let held : holds s.rows row ≡ true = ap (holds s.rows) (sym here) ∙ holds-at s.rows place inside in
      record {
        ranked = rank-behind_held s.rows row (rows_rise s a) held ∙ ap (λ n. n + 1) before;
        small = omega (arith, small, row_below s place row a (sym e));
      }

  -- a rank that has a row is a number of 32 bits
  pub row-few : (r : Option ℕ) → r ≡ slice_get s.rows place → IfSome r (λ row. place < 2 ^ 32)
  row-few None e = tt
  row-few (Some row) e =
      omega (arith, small, slice_get_within s.rows place row (sym e), few_rows s.num_rows s.rows a)

-- ---- the ends of rows, by their start offsets

module _ (o : RowOffsets) (a : AreOffsets o) (place : ℕ) where
  -- past the last rank no values end
  pub run-past_end : length o.set.rows ≤ place → slice_get (starts_of (offset_counts o)) (place + 1) ≡ None
  run-past_end h =
      ap (λ ss. slice_get ss (place + 1)) (offset_counts-starts o a)
      ∙ slice_get_past o.starts (place + 1) (omega (arith, h, (offset_starts o a).long))

  -- where the values of the row with a rank end
  pub run-at_end : place < length o.set.rows → slice_get (starts_of (offset_counts o)) (place + 1) ≡ Some (get_or o.starts (place + 1) 0)
  run-at_end h =
      ap (λ ss. slice_get ss (place + 1)) (offset_counts-starts o a)
      ∙ slice_get-get_or o.starts (place + 1) 0 (omega (arith, h, (offset_starts o a).long))
