use Rattle.std.proofs.Common.{take}
use Rattle.col_model.specs.Index.{runs_of}
use Rattle.col_indexer.specs.Runs.{HaveMore}
use Rattle.col_indexer.proofs.HeldRunLemmas.{behind}
use Rattle.col_indexer.proofs.stacked_runs.push_held.Given as goal

-- so many of the runs were added
abbrev pub invariant-loop-at : goal.invariant-loop-at
invariant-loop-at l =
    HaveMore l.initial.runs l.runs (behind l.before (take l.at (runs_of l.held.rows)))
