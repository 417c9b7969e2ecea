use Rattle.std.proofs.Common.{map}
use Rattle.std.proofs.lemmas.Result.{err_from_is_err_and}
use Rattle.col_order.specs.Orders.{address_of}
use Rattle.col_merge_plan.specs.Slots.{counts_read}
use Rattle.col_outcome.proofs.OrderLemmas.{shuffle-refused}
use Rattle.col_outcome.proofs.order.shuffled.Goals as goal

pub returns-in_err-order : goal.returns-in_err-order
returns-in_err-order g c =
    let p = err_from_is_err_and c.from_residual-in_err-order.result c.from_residual-in_err-order.ensures.1 in
    rw (p.1, p.2) (shuffle-refused (counts_read c.args.readers.now) (map address_of c.args.rows.items) _
    (rw (c.deref.ensures.value, c.in_ok-counts.ensures) at c.in_err-order.ensures.err))
