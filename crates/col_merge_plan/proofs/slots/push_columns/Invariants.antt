use Rattle.std.proofs.Common.{◌≡◌, ◌++◌, map}
use Rattle.col_merge_plan.specs.Slots.{file_slots, listed_slot}
use Rattle.col_merge_plan.proofs.slots.push_columns.Given as goal

abbrev pub invariant-loop-name : goal.invariant-loop-name
invariant-loop-name g l = (goal.iterator-loop-name g).can_next l.name-iterator
    × (goal.iterator-loop-name g).is_finite l.name-iterator
    × (l.slots.items ++ map listed_slot l.name-iterator ≡ l.fn.slots.items ++ file_slots l.reader.keys)
