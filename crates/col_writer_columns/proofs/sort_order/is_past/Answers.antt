use Rattle.std.proofs.Common.{arith}
use Rattle.col_writer_columns.proofs.FirstLemmas.{past-last, past-none}
use Rattle.col_writer_columns.proofs.sort_order.is_past.Goals as goal

pub returns-then-len-eq0 : goal.returns-then-len-eq0
returns-then-len-eq0 c = past-none c.args.num_docs c.args.docs.now (omega (arith, c.len-len.ensures))

pub returns : goal.returns
returns c = past-last c.args.num_docs c.args.docs.now _ c.get.result c.never_fall.ensures (omega (arith, c.len-len.ensures)) c.get.ensures
