use Rattle.std.proofs.Common.{length-set, arith}
use Rattle.std.proofs.lemmas.List.{take_more_set}
use Rattle.col_compact.proofs.CollectLemmas.{collected-more}
use Rattle.col_compact.proofs.PackLemmas.{block-none}
use Rattle.col_compact.proofs.compact_space.take_block.Goals as goal

pub loop-taken-preserved : goal.loop-taken-preserved
loop-taken-preserved g c = record {
  stands = c.in-Some.ensures.stands;
  within = rw (length-set c.loop-taken.block c.loop-taken.taken c.in-Some.value) (let room = c.loop-taken-test.true in omega (arith, room));
  whole =
      collected-more _ _ _ _ _ c.in-Some.value c.loop-taken.invariant.whole c.in-Some.ensures.value
      (take_more_set _ _ _ c.loop-taken-test.true);
}

pub returns-in_default-clause-end : goal.returns-in_default-clause-end
returns-in_default-clause-end g c none room = block-none _ _ _ _ c.loop-taken.invariant.whole c.in_default.ensures.value.0 none
