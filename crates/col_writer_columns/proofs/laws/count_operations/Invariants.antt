use Rattle.std.proofs.Common.{◌≡◌, ◌+◌, ◌<◌, ◌^◌, length}
use Rattle.col_writer_columns.specs.Operations.{operations_of}
use Rattle.col_writer_columns.proofs.laws.count_operations.Given as goal

-- what was counted and what is left are the steps
abbrev pub invariant-loop-operation : goal.invariant-loop-operation
invariant-loop-operation g l = record {
  counted : l.count + length l.operations ≡ length (operations_of l.column);
  few : length (operations_of l.column) < 2 ^ 64;
}

abbrev pub decreases-loop-operation : goal.decreases-loop-operation
decreases-loop-operation g l = length l.operations
