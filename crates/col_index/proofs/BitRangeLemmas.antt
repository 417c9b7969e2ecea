-- Positions of a row with a bit.
use Rattle.std.proofs.Common.{◌≡◌, ℕ, ◌+◌, ◌*◌, ◌^◌, ◌<◌, nat_lt, true, false, List, length, sym, ap, subst, ◌∙◌, arith}
use Rattle.col_common.specs.Flags.{flag_at}
use Rattle.col_model.specs.Index.{RowSet, set_counts}
use Rattle.col_model.specs.Positions.{rank, index_range}
use Rattle.col_index.specs.Ranks.{ones_below}
use Rattle.col_index.specs.RankedRows.{AreBitsOf}
use Rattle.col_index.specs.Sets.{holds}
use Rattle.col_index.proofs.RankLaws.{rows_rise}
use Rattle.col_index.proofs.HeldLaws.{holds-rank}
use Rattle.col_index.proofs.RankedLemmas.{bits_rank, bits_hold}
use Rattle.col_index.proofs.RowRangeLemmas.{range_start, range_end-held, range_end-none}

-- bits of rows that are told by another name
module _ (inside s : RowSet) (view : inside ≡ s) (count : ℕ) (words before : List ℕ)
    (kept : AreBitsOf inside count words before) (row : ℕ) (reached : nat_lt row (64 * length words) ≡ true) where
  own : AreBitsOf s count words before
  own = subst (λ s. AreBitsOf s count words before) view kept

  -- where the bit is set, the row has the position that the bits below it tell
  module _ (at : ℕ) (told : at ≡ ones_below words before row) (set : flag_at words row ≡ true) where
    place : at ≡ rank s.rows row
    place = told ∙ bits_rank s count words before own row reached

    held : holds s.rows row ≡ true
    held = sym (bits_hold s count words before own row reached) ∙ set

    -- the position behind it is counted by 32 bits
    pub set_fits : at + 1 < 2 ^ 32
    set_fits = omega (arith, place, (holds-rank s.rows row (rows_rise s own.rows) held).0, own.bits.few)

    pub set_start : row < count → at ≡ (index_range (set_counts s) row).0
    set_start h = place ∙ sym (range_start s row own.rows (omega (arith, own.long)))

    pub set_end : row < count → at + 1 ≡ (index_range (set_counts s) row).1
    set_end h = ap (λ n. n + 1) place ∙ sym (range_end-held s row own.rows (omega (arith, own.long)) held)

  -- and else none
  module _ (clear : flag_at words row ≡ false) where
    free : holds s.rows row ≡ false
    free = sym (bits_hold s count words before own row reached) ∙ clear

    pub clear_start : (at : ℕ) → at ≡ ones_below words before row → row < count → at ≡ (index_range (set_counts s) row).0
    clear_start at told h =
        told ∙ bits_rank s count words before own row reached ∙ sym (range_start s row own.rows (omega (arith, own.long)))

    pub clear_end : (at : ℕ) → at ≡ ones_below words before row → row < count → at ≡ (index_range (set_counts s) row).1
    clear_end at told h =
        told ∙ bits_rank s count words before own row reached
        ∙ sym (range_end-none s row own.rows (omega (arith, own.long)) free)
