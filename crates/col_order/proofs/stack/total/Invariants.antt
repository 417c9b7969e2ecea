use Rattle.std.proofs.Common.{◌≡◌, ◌<◌, ◌^◌, sum, take}
use Rattle.col_order.proofs.stack.total.Given as goal

abbrev pub invariant-loop-count : goal.invariant-loop-count
invariant-loop-count l = record {
  sum_is : l.sum ≡ sum (take l.count-index l.row_counts);
  fits : l.sum < 2 ^ 32;
}
