use Rattle.std.proofs.Common.{refl, arith}
use Rattle.col_indexer.proofs.HeldRunLemmas.{held-long}
use Rattle.col_indexer.proofs.RunStackLemmas.{more-none, more-same, empty-behind, full-behind, full-long}
use Rattle.col_indexer.proofs.stacked_runs.push_runs.Goals as goal

pub returns-in-Empty : goal.returns-in-Empty
returns-in-Empty c =
    λ added. more-same _ _ _ _ (empty-behind c.args.before c.args.num_rows c.args.column_index.now _ c.in-Empty.is refl)
    (more-none c.args.runs.now)

pub push_span-requires : goal.push_span-requires
push_span-requires c =
    omega (arith, c.requires, full-long c.args.num_rows c.args.column_index.now _ c.in-Full.is refl)

pub returns-in_ok-push_span-in-Full : goal.returns-in_ok-push_span-in-Full
returns-in_ok-push_span-in-Full c =
    λ added. more-same c.args.runs.now _ _ _ (full-behind c.args.before c.args.num_rows c.args.column_index.now _ c.in-Full.is refl)
    c.in_ok-push_span-in-Full.ensures

pub push_held-requires : goal.push_held-requires
push_held-requires c =
    omega (arith, c.requires, held-long c.args.num_rows c.args.column_index.now _ c.in-Optional.index c.in-Optional.is refl)
