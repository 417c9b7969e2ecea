use Rattle.std.proofs.Common.{◌≡◌, map}
use Rattle.std.specs.List.{range_with_len}
use Rattle.col_model.specs.Positions.{start_of}
use Rattle.col_order.proofs.stack.offsets.Given as goal

abbrev pub invariant-loop-count : goal.invariant-loop-count
invariant-loop-count l = record {
  start_is : l.start ≡ start_of l.row_counts l.count-index;
  offsets_are : l.offsets.items ≡ map (start_of l.row_counts) (range_with_len 0 l.count-index);
}
