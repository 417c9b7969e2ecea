use Rattle.std.proofs.Common.{ap, Err}
use Rattle.std.proofs.lemmas.Result.{err_from_is_err_and}
use Rattle.col_merge_plan.specs.Slots.{counts_read}
use Rattle.col_outcome.proofs.OrderLemmas.{stack-refused}
use Rattle.col_outcome.proofs.order.stacked.Goals as goal

pub returns-in_err-order : goal.returns-in_err-order
returns-in_err-order g c =
    let p = err_from_is_err_and c.from_residual-in_err-order.result c.from_residual-in_err-order.ensures.1 in
    let many = rw (c.deref.ensures.value, c.in_ok-counts.ensures) at c.in_err-order.ensures.too_large in
    rw (p.1, p.2) (stack-refused (counts_read c.args.readers.now) _ c.in_err-order.ensures.err (λ e. many.0 (ap Err e)))
