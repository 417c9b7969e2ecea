use Rattle.col_indexer.proofs.RunWalkLemmas.{run-more}
use Rattle.col_indexer.proofs.runs.run_len.Goals as goal

pub loop-len-preserved : goal.loop-len-preserved
loop-len-preserved c =
    run-more _ _ _ c.loop-len.invariant c.loop-len-test.true c.if-rows-at.false c.requires.below
