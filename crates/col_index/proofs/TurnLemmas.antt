-- A turn of the walk over positions, by its places among the start offsets.
use Rattle.std.proofs.Common.{◌≡◌, ℕ, ◌+◌, ◌-◌, ◌<◌, ◌≤◌, false, List, [], ◌∷◌, ◌++◌, length, take, get_or, slice_get, Some, refl, sym, ap, ◌∙◌, arith}
use Rattle.std.proofs.lemmas.Option.{get_or_from_slice_get}
use Rattle.col_model.specs.Index.{RowOffsets, offset_counts}
use Rattle.col_model.specs.Positions.{rank, rows_at}
use Rattle.col_index.specs.declared.search.Place.{Place}
use Rattle.col_index.specs.Places.{IsPlaceOfTarget}
use Rattle.col_index.proofs.InRowLemmas.{some-started, end-unstarted}
use Rattle.col_index.proofs.KeptLemmas.{IsPosition, position-below, IsSelected, selected-read}
use Rattle.col_index.proofs.RowsAtLemmas.{filter-none, after, select-same, select-next}

-- no position
pub rows_at-none : (counts : List ℕ) → rows_at counts [] ≡ []
rows_at-none counts = filter-none (λ row. false) 0 (length counts) (λ row h. refl)

-- the place of a turn is that of the offset behind a position
pub record IsTurn (o : RowOffsets) (ps : List ℕ) (at : ℕ) (next : Place) : Type 0 where
  pub place : IsPlaceOfTarget o.starts next
  pub target : next.target ≡ get_or ps at 0 + 1

-- it is that which was read
pub turned : (o : RowOffsets) (ps xs : List ℕ) (kept at position : ℕ) (next : Place) → IsPlaceOfTarget o.starts next
    → next.target ≡ position + 1 → position ≡ get_or xs at 0 → IsSelected (offset_counts o) ps xs kept at
    → IsTurn o ps at next
turned o ps xs kept at position next p t read s = record {
  place = p;
  target = t ∙ ap (λ n. n + 1) (read ∙ selected-read (offset_counts o) ps xs kept at s);
}

module _ (o : RowOffsets) (ps : List ℕ) (at : ℕ) (here : IsPosition o ps at) where
  module _ (next : Place) (t : IsTurn o ps at next) where
    ranked : next.at ≡ rank o.starts (get_or ps at 0 + 1)
    ranked = t.place.count ∙ ap (rank o.starts) t.target

    -- a start counts
    pub turn-some : 1 ≤ next.at
    turn-some = let some = some-started o here.offsets (get_or ps at 0) in omega (arith, ranked)

    -- the last that does is the start of a row
    pub turn-inside : next.at - 1 < length o.set.rows
    turn-inside = let end = end-unstarted o here.offsets (get_or ps at 0) (position-below o ps at here) in omega (arith, ranked, turn-some)

    module _ (place : Place) (p : IsPlaceOfTarget o.starts place) (u : place.target ≡ after at ps) where
      before : place.at ≡ rank o.starts (after at ps)
      before = p.count ∙ ap (rank o.starts) u

      -- no further start counts
      pub turn-same : next.at ≡ place.at → rows_at (offset_counts o) (take (at + 1) ps) ≡ rows_at (offset_counts o) (take at ps)
      turn-same s = select-same o here.offsets ps at here.rising here.within (position-below o ps at here) (sym ranked ∙ s ∙ before)

      -- a further start counts
      pub turn-next : (next.at ≡ place.at → ⊥) → (row : ℕ) → slice_get o.set.rows (next.at - 1) ≡ Some row
          → rows_at (offset_counts o) (take (at + 1) ps) ≡ rows_at (offset_counts o) (take at ps) ++ row ∷ []
      turn-next n row read =
          select-next o here.offsets ps at here.rising here.within (position-below o ps at here) (λ s. n (ranked ∙ s ∙ sym before))
          ∙ ap (λ k. rows_at (offset_counts o) (take at ps) ++ get_or o.set.rows (k - 1) 0 ∷ []) (sym ranked)
          ∙ ap (λ r. rows_at (offset_counts o) (take at ps) ++ r ∷ []) (get_or_from_slice_get o.set.rows (next.at - 1) row 0 read)
