use Rattle.std.proofs.Common.{arith}
use Rattle.col_order.proofs.PickLemmas.{length-all_rows}
use Rattle.col_order.proofs.merge_row_order.MergeRowOrder.num_rows.Goals as goal

pub returns-in-Stack : goal.returns-in-Stack
returns-in-Stack c = grind (arith, length-all_rows)
