use Rattle.std.proofs.Common.{◌++◌, ap}
use Rattle.col_index.proofs.StartLemmas.{offsets-zeroth}
use Rattle.col_index.proofs.RunLemmas.{runs-none, pushed, rows-with, starts-with}
use Rattle.col_index.proofs.start_offsets.push_runs.Goals as goal

pub loop-row-init : goal.loop-row-init
loop-row-init c =
    let none = runs-none c.args.start_offsets.now (offsets-zeroth c.args.start_offsets.now c.requires.offsets) in
    record {
      rows = ap (λ xs. c.args.rows.now.items ++ xs) none.0;
      starts = ap (λ xs. c.args.starts.now.items ++ xs) none.1;
    }

pub loop-row-preserved : goal.loop-row-preserved
loop-row-preserved c =
    let offsets = c.args.start_offsets.now in
    record {
      rows =
          pushed _ _ _ _ _ _
          (rows-with offsets c.loop-row.row c.loop-row-test.true c.requires.never_fall c.if-start_offsets-row.false)
          c.in_ok-push.ensures.items c.loop-row.invariant.rows;
      starts =
          pushed _ _ _ _ _ _ (starts-with offsets c.loop-row.row c.loop-row-test.true c.requires.never_fall
          c.if-start_offsets-row.false) c.in_ok-push-2.ensures.items c.loop-row.invariant.starts;
    }
