use Rattle.std.proofs.Common.{◌-◌, ◌≤◌}
use Rattle.col_index.specs.Search.{IsNarrowed}
use Rattle.col_index.proofs.HalvingLemmas.{IsHalved}
use Rattle.col_index.proofs.search.narrow_counted.Given as goal

abbrev pub invariant-loop-low : goal.invariant-loop-low
invariant-loop-low g l = record {
  narrowed : IsNarrowed l.rows l.target l.low l.high;
  counted : l.fn.steps ≤ l.steps;
  halved : IsHalved (l.steps - l.fn.steps) (l.fn.high - l.fn.low) (l.high - l.low);
}

abbrev pub decreases-loop-low : goal.decreases-loop-low
decreases-loop-low g l = l.high - l.low
