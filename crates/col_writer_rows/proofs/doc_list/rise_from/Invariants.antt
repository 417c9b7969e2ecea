use Rattle.std.proofs.Common.{◌≡◌, drop}
use Rattle.col_writer_rows.specs.Documents.{all_from}
use Rattle.col_writer_rows.proofs.doc_list.rise_from.Given as goal

abbrev pub invariant-loop-doc : goal.invariant-loop-doc
invariant-loop-doc l = all_from l.fn.least l.docs ≡ all_from l.at (drop l.doc-index l.docs)
