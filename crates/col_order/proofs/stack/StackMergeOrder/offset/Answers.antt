use Rattle.std.proofs.Common.{arith, ap, length}
use Rattle.col_order.proofs.StackLemmas.{length-offsets, offset_read}
use Rattle.col_order.proofs.stack.StackMergeOrder.offset.Goals as goal

pub index-requires : goal.index-requires
index-requires c = omega (arith, ap length c.self.view_is, length-offsets _ _ c.self.invariant)

pub returns : goal.returns
returns c = grind (arith, offset_read _ _ c.args.segment c.index.result.now c.self.invariant)
