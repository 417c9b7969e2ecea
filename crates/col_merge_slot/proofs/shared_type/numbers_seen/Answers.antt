use Rattle.std.proofs.Common.{subst, arith}
use Rattle.std.proofs.lemmas.List.{take_all}
use Rattle.col_merge_slot.specs.Segments.{where_set}
use Rattle.col_merge_slot.specs.SlotTypes.{HaveSeen}
use Rattle.col_merge_slot.proofs.SegmentLemmas.{length-set}
use Rattle.col_merge_slot.proofs.shared_type.numbers_seen.Goals as goal

pub returns : goal.returns
returns c =
    let columns = c.args.columns.now in
    let flags = c.args.kept.now in
    let whole = take_all c.loop-segment.segment (where_set columns flags)
    (omega (arith, c.loop-segment-test.false, length-set columns flags)) in
    subst (λ kept. HaveSeen kept c.loop-segment.seen) whole c.loop-segment.invariant
