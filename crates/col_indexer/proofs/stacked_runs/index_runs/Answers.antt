use Rattle.std.proofs.Common.{◌≡◌, true, arith}
use Rattle.col_indexer.proofs.HeldRunLemmas.{held-first}
use Rattle.col_indexer.proofs.stacked_runs.index_runs.Goals as goal

pub returns : goal.returns
returns c =
    let added : c.in_ok-push_held.field-0 ≡ true = grind (arith, c.if-not-branch.false) in
    held-first _ _ c.args.index.now c.rows_rise.ensures c.in_ok-runs.ensures (c.in_ok-push_held.ensures added)
