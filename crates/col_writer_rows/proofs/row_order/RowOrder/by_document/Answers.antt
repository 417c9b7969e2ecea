use Rattle.col_writer_rows.proofs.OrderLemmas.{own-docs}
use Rattle.col_writer_rows.proofs.row_order.RowOrder.by_document.Goals as goal

pub invariant_of-result : goal.invariant_of-result
invariant_of-result c = own-docs c.args.num_docs
