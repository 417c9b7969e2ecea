use Rattle.std.proofs.Common.{◌≡◌, find, length, option_map}
use Rattle.std.specs.Vec.Iter.{into_iter_items, into_iter_len}
use Rattle.col_model.specs.Category.{same_slot}
use Rattle.col_file.specs.Handles.{handle_of}
use Rattle.col_merge.specs.Opened.{is_in}
use Rattle.col_merge_plan.specs.Slots.{entry_slot}
use Rattle.col_merge.proofs.opening.find_handle.Given as goal

abbrev pub invariant-loop-handle : goal.invariant-loop-handle
invariant-loop-handle g l = (find (is_in l.slot.category) (into_iter_items l.handle-iterator)
    ≡ option_map handle_of (find (λ e. same_slot (entry_slot e) l.slot) l.reader.keys.entries))
    × (into_iter_len l.handle-iterator ≡ length (into_iter_items l.handle-iterator))
