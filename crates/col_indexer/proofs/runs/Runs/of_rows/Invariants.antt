use Rattle.std.proofs.Common.{◌≡◌, ◌≤◌, ◌-◌, length, take}
use Rattle.col_model.specs.Index.{runs_of}
use Rattle.col_indexer.proofs.runs.Runs.of_rows.Given as goal

-- the runs of the rows so far
abbrev pub invariant-loop-at : goal.invariant-loop-at
invariant-loop-at l = record {
  within : l.at ≤ length l.rows;
  found : l.runs ≡ runs_of (take l.at l.rows);
}

abbrev pub decreases-loop-at : goal.decreases-loop-at
decreases-loop-at l = length l.rows - l.at
