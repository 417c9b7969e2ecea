use Rattle.std.proofs.Common.{◌≡◌}
use Rattle.std.specs.List.{range_with_len}
use Rattle.col_writer_rows.proofs.doc_list.DocList.to_vec.Given as goal

abbrev pub invariant-loop-doc : goal.invariant-loop-doc
invariant-loop-doc l = l.all.items ≡ range_with_len 0 l.doc
