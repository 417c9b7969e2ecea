use Rattle.std.proofs.Common.{arith}
use Rattle.col_order.proofs.PickLemmas.{picks-shuffle}
use Rattle.col_model.proofs.StackLaws.{picks-stack}
use Rattle.col_order.proofs.merge_row_order.orders_are_picks.Goals as goal

pub returns-in-Stack : goal.returns-in-Stack
returns-in-Stack c = grind (arith, picks-stack)

pub returns-in-Shuffled : goal.returns-in-Shuffled
returns-in-Shuffled c = grind (arith, picks-shuffle)
