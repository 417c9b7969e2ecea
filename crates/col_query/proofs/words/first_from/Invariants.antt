use Rattle.std.proofs.Common.{◌≡◌, ◌-◌, ◌≤◌}
use Rattle.col_common.specs.Flags.{flags_of, members_from}
use Rattle.col_query.proofs.words.first_from.Given as goal

-- none of the places that were passed is a member
abbrev pub invariant-loop-at : goal.invariant-loop-at
invariant-loop-at l = (members_from (flags_of l.words l.num_docs) l.at ≡ members_from (flags_of l.words l.num_docs) l.from)
    × (l.from ≤ l.at)

abbrev pub decreases-loop-at : goal.decreases-loop-at
decreases-loop-at l = l.num_docs - l.at
