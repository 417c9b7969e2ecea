use Rattle.std.proofs.Common.{◌≡◌, ◌<◌, ◌^◌, map, sum, take}
use Rattle.col_index.specs.Indexes.{shape_of}
use Rattle.col_model.specs.Positions.{picked_counts}
use Rattle.col_merge_column.proofs.cell_counts.has_many_shuffled.Given as goal

-- the values of the rows that were passed
abbrev pub invariant-loop-addr : goal.invariant-loop-addr
invariant-loop-addr l = record {
  count_is : l.count ≡ sum (take l.addr-index (picked_counts (map shape_of l.column_indexes) l.order.addresses));
  fits : l.count < 2 ^ 32;
}
