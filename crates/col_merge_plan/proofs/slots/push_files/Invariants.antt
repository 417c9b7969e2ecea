use Rattle.std.proofs.Common.{◌≡◌, ◌++◌, map, take}
use Rattle.col_model.specs.U64List.{joined_lists}
use Rattle.col_merge_plan.specs.Slots.{file_slots, keys_read}
use Rattle.col_merge_plan.proofs.slots.push_files.Given as goal

abbrev pub invariant-loop-reader : goal.invariant-loop-reader
invariant-loop-reader g l = l.slots.items
    ≡ l.fn.slots.items ++ joined_lists (map file_slots (keys_read (take l.reader-index l.columnar_readers)))
