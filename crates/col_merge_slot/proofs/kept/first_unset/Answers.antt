use Rattle.std.proofs.Common.{arith}
use Rattle.col_merge_slot.proofs.KeptLemmas.{set-more}
use Rattle.col_merge_slot.proofs.kept.first_unset.Goals as goal

pub loop-at-preserved : goal.loop-at-preserved
loop-at-preserved c = record {
  within = omega (arith, c.loop-at-test.true);
  set = set-more c.args.kept.now c.loop-at.at c.loop-at.invariant.set c.if-kept-at.true;
}
