use Rattle.std.proofs.Common.{◌∙◌, sym, ap, slice_get, option_map, arith}
use Rattle.col_dynamic.specs.Dynamic.{type_of}
use Rattle.col_merge_slot.specs.Segments.{where_set}
use Rattle.col_merge_slot.proofs.SegmentLemmas.{length-set}
use Rattle.col_merge_slot.proofs.SlotTypeLemmas.{first-none}
use Rattle.col_merge_slot.proofs.shared_type.first_type.Goals as goal

pub returns : goal.returns
returns c =
    let columns = c.args.columns.now in
    let flags = c.args.kept.now in
    let none = first-none (where_set columns flags) c.loop-segment.segment
    (omega (arith, c.loop-segment-test.false, length-set columns flags)) in
    ap (λ cs. option_map type_of (slice_get cs 0)) (sym (c.loop-segment.invariant ∙ none))
