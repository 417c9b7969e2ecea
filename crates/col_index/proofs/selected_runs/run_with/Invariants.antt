use Rattle.std.proofs.Common.{◌-◌, ◌≤◌, ◌<◌, slice_index}
use Rattle.col_index.proofs.selected_runs.run_with.Given as goal

-- the row of the rank is in one of the runs between two places
abbrev pub invariant-loop-high : goal.invariant-loop-high
invariant-loop-high l = record {
  ordered : l.low < l.high;
  within : l.high ≤ l.count;
  from : slice_index l.before l.low ≤ l.rank;
  upto : l.rank < slice_index l.before l.high;
}

abbrev pub decreases-loop-high : goal.decreases-loop-high
decreases-loop-high l = l.high - l.low
