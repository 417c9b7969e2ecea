use Rattle.std.proofs.Common.{◌≤◌, ◌+◌, ◌-◌}
use Rattle.col_compact.proofs.CodedLemmas.{AreBounds}
use Rattle.col_compact.proofs.coded.code_bounds.Given as goal

abbrev pub invariant-loop-start : goal.invariant-loop-start
invariant-loop-start l = record {
  within : l.start ≤ l.count;
  bounds : AreBounds l.fn.codes l.unpacker l.start l.least l.greatest;
}

abbrev pub decreases-loop-start : goal.decreases-loop-start
decreases-loop-start l = l.count - l.start

abbrev pub invariant-loop-at : goal.invariant-loop-at
invariant-loop-at l = AreBounds l.fn.codes l.unpacker (l.start + l.at) l.least l.greatest

abbrev pub invariant-loop-idx : goal.invariant-loop-idx
invariant-loop-idx l = AreBounds l.fn.codes l.unpacker l.idx l.least l.greatest
