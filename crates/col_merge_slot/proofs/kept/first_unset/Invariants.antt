use Rattle.std.proofs.Common.{◌≤◌, ◌-◌, length}
use Rattle.col_merge_slot.specs.Kept.{AreSet}
use Rattle.col_merge_slot.proofs.kept.first_unset.Given as goal

-- the flags that were passed are set
abbrev pub invariant-loop-at : goal.invariant-loop-at
invariant-loop-at l = record {
  within : l.at ≤ length l.kept;
  set : AreSet l.kept l.at;
}

abbrev pub decreases-loop-at : goal.decreases-loop-at
decreases-loop-at l = length l.kept - l.at
