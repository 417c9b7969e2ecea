use Rattle.std.proofs.Common.{arith}
use Rattle.col_merge.proofs.StackLemmas.{too-many}
use Rattle.col_merge.proofs.stack_from_readers.total.Goals as goal

pub returns-in_err-sum : goal.returns-in_err-sum
returns-in_err-sum g c = grind (arith, too-many c.args.columnar_readers.now c.loop-reader.reader-index c.reader-item.result)
