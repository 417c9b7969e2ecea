use Rattle.std.proofs.Common.{◌-◌}
use Rattle.col_indexer.proofs.RunWalkLemmas.{CountedAt}
use Rattle.col_indexer.proofs.runs.count_runs.Given as goal

-- the runs that begin up to the last place, and those from there on
abbrev pub invariant-loop-at : goal.invariant-loop-at
invariant-loop-at l = CountedAt l.rows (l.at - 1) l.count
