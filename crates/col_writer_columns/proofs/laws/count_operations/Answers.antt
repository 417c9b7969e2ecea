use Rattle.std.proofs.Common.{arith, ap, length, None}
use Rattle.col_writer_columns.proofs.OperationLemmas.{steps-few}
use Rattle.col_writer_columns.proofs.laws.count_operations.Goals as goal

pub loop-operation-init : goal.loop-operation-init
loop-operation-init g c = record {
  counted = let same = ap length c.operations-operations.ensures in omega (arith, same);
  few = let most = steps-few None c.args.column.now in
      omega (arith, most, c.num_values-num_values.ensures.value, c.num_values-num_values.ensures.few);
}
