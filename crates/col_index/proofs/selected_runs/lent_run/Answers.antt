use Rattle.std.proofs.Common.{◌<◌, length, arith}
use Rattle.col_index.proofs.LentRunLemmas.{run_lent}
use Rattle.col_index.proofs.RunHeldLemmas.{summed_runs}
use Rattle.col_index.proofs.selected_runs.lent_run.Goals as goal

pub run_at-run-requires-clause-number : goal.run_at-run-requires-clause-number
run_at-run-requires-clause-number c =
    omega (arith, c.requires.at, summed_runs c.args.starts.now c.args.before.now c.requires.summed)

pub returns : goal.returns
returns c =
    let s = c.args.starts.now in
    let before = c.args.before.now in
    let run = c.run_at-run in
    let within : c.args.at < length s.rows = omega (arith, c.requires.at, summed_runs s before c.requires.summed) in
    run_lent s before c.requires.summed c.args.at run.result.start run.result.before run.result.len within
    run.ensures.start run.ensures.before run.ensures.end
