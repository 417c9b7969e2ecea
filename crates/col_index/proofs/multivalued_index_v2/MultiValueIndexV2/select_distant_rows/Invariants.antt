use Rattle.std.proofs.Common.{◌≡◌}
use Rattle.col_model.specs.Index.{offset_counts}
use Rattle.col_index.specs.Places.{IsPlaceOfTarget}
use Rattle.col_index.proofs.KeptLemmas.{IsSelected}
use Rattle.col_index.proofs.RowsAtLemmas.{after}
use Rattle.col_index.proofs.multivalued_index_v2.MultiValueIndexV2.select_distant_rows.Given as goal

abbrev pub invariant-loop-at : goal.invariant-loop-at
invariant-loop-at g l = record {
  place : IsPlaceOfTarget l.self.starts l.place;
  target : l.place.target ≡ after l.at l.fn.ranks;
  near : g.R.SelectNear.IsNear l.rows l.near;
  selected : IsSelected (offset_counts l.self) l.fn.ranks l.ranks l.kept l.at;
}
