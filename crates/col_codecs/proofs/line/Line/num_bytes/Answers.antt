use Rattle.std.proofs.Common.{arith}
use Rattle.col_model.proofs.BlockLaws.{vint_bytes-most}
use Rattle.col_codecs.proofs.line.Line.num_bytes.Goals as goal

pub overflow_add-result : goal.overflow_add-result
overflow_add-result c =
    omega (
      arith,
      c.num_bytes.ensures,
      c.num_bytes-2.ensures,
      vint_bytes-most c.args.self.now.slope,
      vint_bytes-most c.args.self.now.intercept,
    )
