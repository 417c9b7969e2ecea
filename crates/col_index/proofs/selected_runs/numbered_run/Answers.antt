use Rattle.std.proofs.Common.{get_or, ap, arith}
use Rattle.col_index.proofs.RankedRunLemmas.{run_rank, run_own}
use Rattle.col_index.proofs.RunHeldLemmas.{summed_long, summed_all}
use Rattle.col_index.proofs.selected_runs.numbered_run.Goals as goal

pub run_near-at-requires-clause-long : goal.run_near-at-requires-clause-long
run_near-at-requires-clause-long c =
    omega (arith, summed_long c.args.starts.now c.args.before.now c.requires.summed, c.num_non_nulls.ensures)

pub run_near-at-requires-clause-last : goal.run_near-at-requires-clause-last
run_near-at-requires-clause-last c =
    let before = c.args.before.now in
    let all = summed_all c.args.starts.now before c.requires.summed in
    omega (arith, all, c.requires.rank, ap (λ k. get_or before k 0) c.num_non_nulls.ensures)

pub returns-clause-run : goal.returns-clause-run
returns-clause-run c =
    run_own c.args.starts.now c.args.before.now c.requires.summed
    (omega (arith, c.num_docs-count.ensures, c.num_docs-count.type_inv))
    c.run_near-at.result c.args.rank c.run_at.result (omega (arith, c.run_near-at.ensures.within, c.num_non_nulls.ensures))
    c.run_at.ensures.start c.run_at.ensures.before c.run_at.ensures.end c.run_near-at.ensures.from c.run_near-at.ensures.upto

pub returns-clause-rank : goal.returns-clause-rank
returns-clause-rank c =
    run_rank c.run_at.result _ _ c.args.rank c.run_at.ensures.before c.run_at.ensures.end c.run_near-at.ensures.from
    c.run_near-at.ensures.upto
