-- The positions of the value of a row that has at most one.
use Rattle.std.proofs.Common.{◌≡◌, ℕ, ◌+◌, ◌<◌, ◌≤◌, true, false, length, refl, ap, ◌∙◌, arith}
use Rattle.std.proofs.lemmas.Bool.{lt-ltb, le-ltb}
use Rattle.col_model.specs.Index.{RowSet, set_counts}
use Rattle.col_model.specs.Positions.{rank, value_positions, index_range}
use Rattle.col_index.specs.Sets.{AreRows, holds}
use Rattle.col_index.proofs.RankLaws.{rows_rise}
use Rattle.col_index.proofs.RangeLemmas.{rank-behind_held, rank-behind_free}
use Rattle.col_index.proofs.CountLaws.{length-set_counts, set_counts-start}

-- a number that is no row has none
pub range_past : (s : RowSet) (row : ℕ) → s.num_rows ≤ row → index_range (set_counts s) row ≡ (0, 0)
range_past s row h =
    let count = length-set_counts s in
    rw (le-ltb row (length (set_counts s)) (omega (arith, count))) refl

module _ (s : RowSet) (row : ℕ) (a : AreRows s) (h : row < s.num_rows) where
  within : index_range (set_counts s) row ≡ value_positions (set_counts s) row
  within =
      let count = length-set_counts s in
      rw (lt-ltb row (length (set_counts s)) (omega (arith, count))) refl

  -- it starts at the rank
  pub range_start : (index_range (set_counts s) row).0 ≡ rank s.rows row
  range_start = ap (λ p. p.0) within ∙ set_counts-start s a row

  behind : (index_range (set_counts s) row).1 ≡ rank s.rows (row + 1)
  behind = ap (λ p. p.1) within ∙ set_counts-start s a (row + 1)

  -- and ends behind it, or there
  pub range_end-held : holds s.rows row ≡ true → (index_range (set_counts s) row).1 ≡ rank s.rows row + 1
  range_end-held e = behind ∙ rank-behind_held s.rows row (rows_rise s a) e

  -- the positions of a row without a value end at its rank, where they begin
  pub range_end-none : holds s.rows row ≡ false → (index_range (set_counts s) row).1 ≡ rank s.rows row
  range_end-none e = behind ∙ rank-behind_free s.rows row (rows_rise s a) e
