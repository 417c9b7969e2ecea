use Rattle.std.proofs.Common.{◌≡◌}
use Rattle.std.specs.Bool.{nat_eq}
use Rattle.std.specs.Cmp.Lexicographic.{pointwise}
use Rattle.col_order.specs.Orders.{counts_of}
use Rattle.col_order.specs.RowOrders.{order_of}
use Rattle.col_merge_plan.specs.Slots.{counts_read}
use Rattle.col_merge_plan.proofs.CountLemmas.{left_alike}
use Rattle.col_merge_plan.proofs.counts.is_order_of.Given as goal

abbrev pub invariant-loop-segment : goal.invariant-loop-segment
invariant-loop-segment g l =
    let own = counts_of (order_of l.merge_row_order) in
    let counts = counts_read l.columnar_readers in
    pointwise nat_eq own counts ≡ left_alike own counts l.segment
