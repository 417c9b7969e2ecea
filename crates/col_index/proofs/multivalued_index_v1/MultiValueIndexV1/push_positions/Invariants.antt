use Rattle.std.proofs.Common.{◌≡◌, ◌++◌, take}
use Rattle.col_common.specs.Ascending.{differences}
use Rattle.col_index.specs.Offsets.{row_positions, found_rows, positions_of}
use Rattle.col_index.proofs.multivalued_index_v1.MultiValueIndexV1.push_positions.Given as goal

abbrev pub invariant-loop-doc : goal.invariant-loop-doc
invariant-loop-doc l = record {
  docs : l.docs_out.items ≡ l.initial.docs_out.items ++ found_rows (row_positions (differences l.self) (take l.doc-index l.docs));
  rows : l.rows_out.items ≡ l.initial.rows_out.items ++ positions_of (row_positions (differences l.self) (take l.doc-index l.docs));
}
