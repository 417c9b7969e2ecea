use Rattle.col_common.specs.Ascending.{differences}
use Rattle.col_index.proofs.KeptLemmas.{IsSelected}
use Rattle.col_index.proofs.OldSelectLemmas.{IsWalked}
use Rattle.col_index.proofs.multivalued_index_v1.MultiValueIndexV1.select_rows.Given as goal

abbrev pub invariant-loop-at : goal.invariant-loop-at
invariant-loop-at l = record {
  selected : IsSelected (differences l.self) l.fn.ranks l.ranks l.kept l.at;
  walked : IsWalked l.self l.fn.ranks l.at l.doc_id l.«end»;
}
