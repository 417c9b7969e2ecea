use Rattle.std.proofs.Common.{arith}
use Rattle.col_writer.proofs.UsageLemmas.{numbers-bytes}
use Rattle.col_writer.proofs.writer.mem_usage.NumericalColumnWriterRecordBytes.num_bytes.Goals as goal

pub returns : goal.returns
returns c =
    let bytes = numbers-bytes c.args.self.now.records c.codes.result.now c.codes.ensures in
    omega (arith, bytes, c.num_values.ensures.value, c.num_values.ensures.few)
