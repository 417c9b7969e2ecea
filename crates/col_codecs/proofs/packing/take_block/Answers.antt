use Rattle.std.proofs.Common.{arith}
use Rattle.col_codecs.proofs.PackingLemmas.{IsTaken-none, IsTaken-push, IsTaken-end, IsTaken-full}
use Rattle.col_codecs.proofs.packing.take_block.Goals as goal

pub loop-taken-init : goal.loop-taken-init
loop-taken-init g c = record { stands = c.requires; taken = IsTaken-none _ _ }

pub loop-taken-preserved : goal.loop-taken-preserved
loop-taken-preserved g c = record {
  stands = c.in-Some.ensures.stands;
  taken = IsTaken-push _ _ _ _ _ _ c.loop-taken.invariant.taken c.loop-taken-test.true c.in-Some.ensures.value;
}

pub returns-after-loop-taken-clause-count : goal.returns-after-loop-taken-clause-count
returns-after-loop-taken-clause-count g c =
    omega
    (arith, c.loop-taken.auto.block, IsTaken-full _ _ _ _ c.loop-taken.invariant.taken c.loop-taken-test.false)

pub returns-in_default-clause-count : goal.returns-in_default-clause-count
returns-in_default-clause-count g c =
    omega
    (arith, c.loop-taken.auto.block, IsTaken-end _ _ _ _ c.loop-taken.invariant.taken c.in_default.ensures.value.0)
