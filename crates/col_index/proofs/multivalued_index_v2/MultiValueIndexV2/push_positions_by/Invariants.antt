use Rattle.std.proofs.Common.{◌≡◌, ◌++◌, take}
use Rattle.col_model.specs.Index.{offset_counts}
use Rattle.col_index.specs.Offsets.{row_positions, found_rows, positions_of}
use Rattle.col_index.proofs.multivalued_index_v2.MultiValueIndexV2.push_positions_by.Given as goal

abbrev pub invariant-loop-doc : goal.invariant-loop-doc
invariant-loop-doc g l = record {
  place : g.R.RankNear.IsPlace l.rows l.place;
  docs : l.docs_out.items ≡ l.initial.docs_out.items ++ found_rows (row_positions (offset_counts l.self) (take l.doc-index l.docs));
  rows : l.rows_out.items ≡ l.initial.rows_out.items ++ positions_of (row_positions (offset_counts l.self) (take l.doc-index l.docs));
}
