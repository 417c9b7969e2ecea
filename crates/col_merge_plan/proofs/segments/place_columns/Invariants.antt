use Rattle.std.proofs.Common.{◌≡◌, ◌++◌, map}
use Rattle.col_merge_plan.specs.Slots.{file_slots, listed_slot}
use Rattle.col_merge_plan.proofs.segments.place_columns.Given as goal

abbrev pub invariant-loop-name : goal.invariant-loop-name
invariant-loop-name g l = (goal.iterator-loop-name g).can_next l.name-iterator
    × (goal.iterator-loop-name g).is_finite l.name-iterator
    × (l.placed.items ++ map (λ s. (s, l.segment)) (map listed_slot l.name-iterator)
    ≡ l.fn.placed.items ++ map (λ s. (s, l.segment)) (file_slots l.reader.keys))
