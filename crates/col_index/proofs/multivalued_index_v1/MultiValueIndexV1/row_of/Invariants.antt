use Rattle.std.proofs.Common.{◌≤◌, get_or}
use Rattle.col_index.proofs.multivalued_index_v1.MultiValueIndexV1.row_of.Given as goal

abbrev pub invariant-loop-doc_id : goal.invariant-loop-doc_id
invariant-loop-doc_id l = get_or l.self l.doc_id 0 ≤ l.position
