use Rattle.std.proofs.Common.{◌≡◌, length}
use Rattle.col_model.specs.Index.{offset_counts}
use Rattle.col_model.specs.Positions.{rank}
use Rattle.col_index.specs.Windows.{IsWindow}
use Rattle.col_index.proofs.KeptLemmas.{IsSelected}
use Rattle.col_index.proofs.RowsAtLemmas.{after}
use Rattle.col_index.proofs.multivalued_index_v2.MultiValueIndexV2.select_close_rows.Given as goal

abbrev pub invariant-loop-at : goal.invariant-loop-at
invariant-loop-at g l = record {
  window : IsWindow l.self.starts l.window l.table;
  room : length l.table ≡ 1024;
  before : l.before ≡ rank l.self.starts (after l.at l.fn.ranks);
  near : g.R.SelectNear.IsNear l.rows l.near;
  selected : IsSelected (offset_counts l.self) l.fn.ranks l.ranks l.kept l.at;
}
