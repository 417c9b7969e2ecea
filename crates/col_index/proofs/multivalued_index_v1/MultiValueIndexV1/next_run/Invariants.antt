use Rattle.std.proofs.Common.{◌≡◌, ◌≤◌, length, get_or}
use Rattle.col_common.specs.Ascending.{differences}
use Rattle.col_model.specs.Positions.{rank, rows_with_value}
use Rattle.col_index.proofs.multivalued_index_v1.MultiValueIndexV1.next_run.Given as goal

abbrev pub invariant-loop-doc_id : goal.invariant-loop-doc_id
invariant-loop-doc_id l = record {
  ranked : rank (rows_with_value (differences l.self)) l.doc_id ≡ rank (rows_with_value (differences l.self)) l.from;
  level : l.doc_id ≤ length (differences l.self) → get_or l.self l.doc_id 0 ≡ l.start;
}
