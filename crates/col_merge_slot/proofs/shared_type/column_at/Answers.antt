use Rattle.std.proofs.Common.{arith}
use Rattle.std.proofs.lemmas.Grind.{common_steps}
use Rattle.col_merge_slot.proofs.SegmentLemmas.{set-at}
use Rattle.col_merge_slot.proofs.shared_type.column_at.Goals as goal

pub returns-then-not-kept-segment : goal.returns-then-not-kept-segment
returns-then-not-kept-segment c =
    let at = set-at c.args.columns.now c.args.kept.now c.args.segment in grind (arith, common_steps, at)

pub returns : goal.returns
returns c =
    let at = set-at c.args.columns.now c.args.kept.now c.args.segment in
    let result = c.as_ref.ensures.value in
    grind (arith, common_steps, at, result)
