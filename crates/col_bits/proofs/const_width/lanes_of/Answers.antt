use Rattle.std.proofs.Common.{arith, take_all}
use Rattle.col_bits.proofs.const_width.lanes_of.Goals as goal

pub returns : goal.returns
returns c = take_all 64 c.args.block.now (omega arith)
