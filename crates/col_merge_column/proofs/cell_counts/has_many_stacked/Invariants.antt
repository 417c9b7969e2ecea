use Rattle.std.proofs.Common.{◌≡◌, ◌<◌, ◌^◌, map, sum, take}
use Rattle.col_index.specs.Indexes.{shape_of}
use Rattle.col_merge_column.proofs.CountLemmas.{totals}
use Rattle.col_merge_column.proofs.cell_counts.has_many_stacked.Given as goal

-- the values of the segments that were passed
abbrev pub invariant-loop-segment : goal.invariant-loop-segment
invariant-loop-segment l = record {
  count_is : l.count ≡ sum (take l.segment (totals l.order (map shape_of l.column_indexes)));
  fits : l.count < 2 ^ 32;
}
