use Rattle.std.proofs.Common.{length, ◌-◌}
use Rattle.col_indexer.specs.Runs.{IsRunAt}
use Rattle.col_indexer.proofs.runs.run_len.Given as goal

-- so many follow one another so far
abbrev pub invariant-loop-len : goal.invariant-loop-len
invariant-loop-len l = IsRunAt l.rows l.at l.len

abbrev pub decreases-loop-len : goal.decreases-loop-len
decreases-loop-len l = length l.rows - l.at - l.len
