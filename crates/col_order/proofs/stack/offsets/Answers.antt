use Rattle.std.proofs.Common.{arith}
use Rattle.std.proofs.lemmas.List.Sums.{sum_by_more}
use Rattle.col_order.proofs.StackLemmas.{offset_put}
use Rattle.col_order.proofs.stack.offsets.Goals as goal

pub loop-count-preserved : goal.loop-count-preserved
loop-count-preserved c = record {
  start_is = grind (arith, sum_by_more);
  offsets_are = offset_put _ _ _ _ _ c.loop-count.invariant.offsets_are c.loop-count.invariant.start_is c.in_ok-push.ensures.items;
}

pub returns : goal.returns
returns c =
    grind (
      arith,
      offset_put _ _ _ c.loop-count.count-index _ c.loop-count.invariant.offsets_are
          c.loop-count.invariant.start_is c.in_ok-push-2.ensures.items,
    )
