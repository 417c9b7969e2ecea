-- Laws about indexes: public calls ensure them, and have nothing else to do.
use Rattle.std.specs.Prelude.{◌≡◌, ◌↔◌, ℕ, List, Bool, true, Option, Some}
use Rattle.col_model.specs.Index.{RowSet, RowOffsets, set_counts, offset_counts}
use Rattle.col_common.specs.Ascending.{differences}
use Rattle.col_model.specs.Positions.{rank, start_of, rows_with_value, starts_of}
use Rattle.col_index.specs.Sets.{AreRows}
use Rattle.col_index.specs.Offsets.{AreOffsets, AreOldOffsets, without_repeats}

-- A number that a rank selects has this rank; a number is in exactly where its rank selects it; the
-- ranks that may be selected are those that select a number.
pub record IsRanked {T : Type 0} (holds : T → Bool) (rank_of : T → T) (at_rank : T → Option T)
    (IsRank : T → Type 0) : Type 0 where
  pub ranks : (k el : T) → at_rank k ≡ Some el → rank_of el ≡ k
  pub members : (el : T) → (holds el ≡ true) ↔ (at_rank (rank_of el) ≡ Some el)
  pub selects : (k : T) → IsRank k ↔ ((el : T) × (at_rank k ≡ Some el))

-- the counts of rows with a value have just these rows, and start where their offsets say
pub record IndexesHaveCounts : Type 0 where
  pub set_rows : (s : RowSet) → AreRows s → rows_with_value (set_counts s) ≡ s.rows
  pub set_starts : (s : RowSet) → AreRows s
      → (row : ℕ) → start_of (set_counts s) row ≡ rank s.rows row
  pub offset_rows : (o : RowOffsets) → AreOffsets o → rows_with_value (offset_counts o) ≡ o.set.rows
  pub offset_starts : (o : RowOffsets) → AreOffsets o → starts_of (offset_counts o) ≡ o.starts
  pub old_starts : (o : List ℕ) → AreOldOffsets o → starts_of (differences o) ≡ without_repeats o
