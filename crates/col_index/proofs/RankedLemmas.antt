-- Ranks of rows by what an index keeps beside them.
use Rattle.std.proofs.Common.{◌≡◌, ℕ, zero, suc, ◌+◌, ◌-◌, ◌*◌, ◌^◌, ◌<◌, ◌≤◌, min, nat_lt, true, List, [], ◌∷◌, length, slice_index, None, refl, sym, ap, ◌∙◌, inl, inr, arith}
use Rattle.std.proofs.lemmas.Bool.{cases_lt, ltb-true}
use Rattle.std.proofs.lemmas.Option.{slice_get-get_or}
use Rattle.col_common.specs.Flags.{flag_at}
use Rattle.col_common.specs.Reading.{only_if}
use Rattle.col_model.specs.Index.{RowSet}
use Rattle.col_model.specs.Positions.{rank}
use Rattle.col_index.specs.Ranks.{AreBuckets, ones_below}
use Rattle.col_index.specs.RankedRows.{AreBitsOf}
use Rattle.col_index.specs.Sets.{AreRows, holds}
use Rattle.col_index.proofs.RankLaws.{rows_rise, narrowed-rank, rank-le-length}
use Rattle.col_index.proofs.RangeLemmas.{past-free}
use Rattle.col_index.proofs.SearchLemmas.{rank_of_zero}
use Rattle.col_index.proofs.SetLemmas.{row_below}
use Rattle.col_index.proofs.RankWordLemmas.{ones_below-rank}

-- a row past the count has all rows before it
pub rank_past : (s : RowSet) (row : ℕ) → AreRows s → s.num_rows ≤ row → length s.rows ≡ rank s.rows row
rank_past s row a h = narrowed-rank s.rows row (length s.rows) (record {
  ordered = omega arith;
  within = omega arith;
  below = λ i k. let below = row_below s i _ a (slice_get-get_or s.rows i 0 k) in omega (arith, below);
  above = λ i k l. absurd (omega arith);
})

-- as the last row counts, a row past the count does
pub rank_clamped : (s : RowSet) (row : ℕ) → AreRows s
    → rank s.rows (min row (s.num_rows - 1) + 1) ≡ rank s.rows (row + 1)
rank_clamped s row a = elim (cases_lt row s.num_rows) [
  | inl inside ↦
      let same : min row (s.num_rows - 1) ≡ row = omega arith in
      ap (λ r. rank s.rows (r + 1)) same
  | inr past ↦
      sym (rank_past s (min row (s.num_rows - 1) + 1) a (omega arith))
      ∙ rank_past s (row + 1) a (omega arith)
]

-- and has no value
pub missed_past : (s : RowSet) (row : ℕ) → AreRows s → s.num_rows ≤ row → None ≡ only_if (holds s.rows row) (rank s.rows row)
missed_past s row a h =
    sym (ap (λ b. only_if b (rank s.rows row))
    (past-free s.rows row (rows_rise s a) (omega (arith, rank_past s row a h))))

-- the parts of 2 ^ 31 rows start at no row, at the middle and past all rows
half_counts : (s : RowSet) (middle : ℕ) → AreRows s → s.num_rows < 2 ^ 32 → middle ≡ rank s.rows (2 ^ 31)
    → (part : ℕ) → part < 3 → slice_index (0 ∷ middle ∷ length s.rows ∷ []) part ≡ rank s.rows (2 ^ 31 * part)
half_counts s middle a few e zero h = rank_of_zero s.rows
half_counts s middle a few e (suc zero) h = e
half_counts s middle a few e (suc (suc zero)) h = rank_past s (2 ^ 31 * 2) a (omega arith)
half_counts s middle a few e (suc (suc (suc part))) h = absurd (omega arith)

-- so that their counts are those of all rows
pub halves : (s : RowSet) (middle : ℕ) → AreRows s → s.num_rows < 2 ^ 32 → middle ≡ rank s.rows (2 ^ 31)
    → AreBuckets s.rows s.num_rows 31 (0 ∷ middle ∷ length s.rows ∷ [])
halves s middle a few e = record {
  short = omega arith;
  room = omega arith;
  counts = record { long = refl; each = half_counts s middle a few e };
}

-- a row with a bit
module _ (s : RowSet) (count : ℕ) (words before : List ℕ) (own : AreBitsOf s count words before) (row : ℕ)
    (reached : nat_lt row (64 * length words) ≡ true) where
  -- the bits set below a row are as many as its rank
  pub bits_rank : ones_below words before row ≡ rank s.rows row
  bits_rank =
      ones_below-rank s.rows words before row (rows_rise s own.rows) own.bits (ltb-true row (64 * length words) reached)

  -- the bits set below a row are fewer than 2 ^ 32
  pub bits_fit : ones_below words before row < 2 ^ 32
  bits_fit = omega (arith, bits_rank, rank-le-length s.rows row, own.bits.few)

  -- its bit is set where it has a value
  pub bits_hold : flag_at words row ≡ holds s.rows row
  bits_hold = own.bits.flags row (ltb-true row (64 * length words) reached)
