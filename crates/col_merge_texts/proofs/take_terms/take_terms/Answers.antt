use Rattle.std.proofs.Common.{sym, subst}
use Rattle.col_order.specs.RowOrders.{order_of}
use Rattle.col_merge_texts.specs.Taking.{IsTaken, AreNoted}
use Rattle.col_merge_texts.proofs.NoteLemmas.{noted-start}
use Rattle.col_merge_texts.proofs.PickLemmas.{taken-there}
use Rattle.col_merge_texts.proofs.take_terms.take_terms.Goals as goal

pub take_by_order-requires-clause-noted : goal.take_by_order-requires-clause-noted
take_by_order-requires-clause-noted c =
    let columns = c.args.bytes_columns.now in
    let taken = IsTaken columns (order_of c.args.merge_row_order.now) in
    subst (AreNoted columns taken taken) (sym c.in_ok-noted.ensures) (noted-start columns taken
    (λ q w. taken-there columns (order_of c.args.merge_row_order.now) c.requires.told q w))
