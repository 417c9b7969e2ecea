use Rattle.std.proofs.Common.{◌∙◌, arith}
use Rattle.col_indexer.proofs.RunWalkLemmas.{found-none, found-more, found-all}
use Rattle.col_indexer.proofs.runs.Runs.of_rows.Goals as goal

pub loop-at-init : goal.loop-at-init
loop-at-init c = record { within = omega arith; found = c.in_ok-runs.ensures ∙ found-none c.args.rows.now }

pub loop-at-preserved : goal.loop-at-preserved
loop-at-preserved c = record {
  within = c.run_len-len.ensures.within;
  found = found-more c.args.rows.now _ _ c.loop-at.at c.run_len-len.result c.loop-at.invariant.found c.run_len-len.ensures
      c.in_ok-push_run.ensures;
}

pub returns : goal.returns
returns c = found-all c.args.rows.now c.loop-at.runs c.loop-at.at c.loop-at-test.false c.loop-at.invariant.found
