use Rattle.std.proofs.Common.{arith, ap, length, ◌+◌}
use Rattle.col_order.proofs.StackLemmas.{length-offsets, offset_read}
use Rattle.col_order.proofs.stack.StackMergeOrder.columnar_range.Goals as goal

pub index-requires : goal.index-requires
index-requires c = omega (arith, ap length c.self.view_is, length-offsets _ _ c.self.invariant)

pub overflow_add-segment : goal.overflow_add-segment
overflow_add-segment c = omega (arith, ap length c.self.view_is, length-offsets _ _ c.self.invariant)

pub index-requires-2 : goal.index-requires-2
index-requires-2 c = omega (arith, ap length c.self.view_is, length-offsets _ _ c.self.invariant)

pub returns-clause-start : goal.returns-clause-start
returns-clause-start c = grind (arith, offset_read _ _ c.args.segment c.index.result.now c.self.invariant)

pub returns-clause-end : goal.returns-clause-end
returns-clause-end c = grind (arith, offset_read _ _ (c.args.segment + 1) c.index-2.result.now c.self.invariant)
