use Rattle.std.proofs.Common.{◌≡◌, ◌-◌}
use Rattle.col_common.specs.Flags.{members_from}
use Rattle.col_common.proofs.bit_set.BitSet.first_from.Given as goal

-- none of the places that were passed is a member
abbrev pub invariant-loop-at : goal.invariant-loop-at
invariant-loop-at l = members_from l.self l.at ≡ members_from l.self l.from

abbrev pub decreases-loop-at : goal.decreases-loop-at
decreases-loop-at l = l.max_value - l.at
