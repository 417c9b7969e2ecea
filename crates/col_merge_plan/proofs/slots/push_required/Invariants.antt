use Rattle.std.proofs.Common.{◌≡◌, ◌++◌, map, take}
use Rattle.col_model.specs.Merge.{required_slot}
use Rattle.col_merge_plan.specs.Slots.{required_of}
use Rattle.col_merge_plan.proofs.slots.push_required.Given as goal

abbrev pub invariant-loop-name : goal.invariant-loop-name
invariant-loop-name l = l.slots.items
    ≡ l.fn.slots.items ++ map required_slot (required_of (take l.name-index l.required_columns))
