use Rattle.std.proofs.Common.{◌≡◌, take}
use Rattle.col_writer_rows.specs.RowOrders.{first_docs}
use Rattle.col_writer_rows.proofs.row_order.first_docs.Given as goal

abbrev pub invariant-loop-doc : goal.invariant-loop-doc
invariant-loop-doc l = l.docs.items ≡ first_docs l.num_docs (take l.doc l.rows)
