use Rattle.std.proofs.Common.{◌≡◌, subst, sym}
use Rattle.std.proofs.lemmas.Result.{err_from_is_err_and}
use Rattle.col_model.specs.Order.{stack}
use Rattle.col_merge.proofs.OpenTurnLemmas.{open-refused}
use Rattle.col_merge.proofs.ReadingLemmas.{all_read-none}
use Rattle.col_merge.proofs.ShortJoinLemmas.{short-joins}
use Rattle.col_merge.specs.Readings.{slot_reads}
use Rattle.col_merge_plan.proofs.SegmentLemmas.{are-segments}
use Rattle.col_merge_plan.specs.Placed.{AreSegmentsFrom, segments_in}
use Rattle.col_merge_plan.specs.Slots.{keys_read}
use Rattle.col_merge.proofs.join_columns.join_short.Goals as goal

pub returns-in_err-segments-clause-kept : goal.returns-in_err-segments-clause-kept
returns-in_err-segments-clause-kept g c = all_read-none (slot_reads c.args.slot.now) c.args.columnar_readers.now

pub open_short-requires-clause-segments : goal.open_short-requires-clause-segments
open_short-requires-clause-segments g c =
    let ks = keys_read c.args.columnar_readers.now in
    let slot = c.args.slot.now in
    let is : c.deref.result.now ≡ segments_in c.args.placed.now slot =
    cc (c.deref.ensures.value, c.in_ok-segments.ensures) in
    subst (AreSegmentsFrom 0 slot ks) (sym is) (are-segments slot ks c.args.placed.now c.requires.placed)

pub returns-clause-answer : goal.returns-clause-answer
returns-clause-answer g c required wanted =
    let short = c.in_ok-short.short in
    short-joins c.args.columnar_readers.now c.open_short.new.columnar_readers c.args.slot.now required c.args.order.now
    short.counts.items short.columns.items c.join.result c.requires.counts c.requires.read c.in_ok-short.ensures.ok
    c.join.ensures.causes (λ parts counted opened. c.join.ensures.joined c.args.slot.now parts required counted opened wanted)

pub returns-in_err-short-clause-answer : goal.returns-in_err-short-clause-answer
returns-in_err-short-clause-answer g c required same =
    let p = err_from_is_err_and c.from_residual-in_err-short.result c.from_residual-in_err-short.ensures.1 in
    rw (p.1, p.2) (λ a b. open-refused (stack c.args.order.now) required c.args.slot.now
    c.args.columnar_readers.now c.open_short.new.columnar_readers c.in_err-short.field-0.0 a b
    c.in_err-short.ensures.err)
