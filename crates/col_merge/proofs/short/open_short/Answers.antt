use Rattle.std.proofs.Common.{◌-◌, refl, ap₂, subst, arith}
use Rattle.std.specs.Prelude.{slice_index_or}
use Rattle.std.proofs.lemmas.Result.{err_from_is_err_and}
use Rattle.col_merge.specs.Readings.{slot_reads}
use Rattle.col_merge_plan.specs.Placed.{AreSegmentsFrom}
use Rattle.col_merge_plan.specs.Slots.{keys_read}
use Rattle.col_merge.proofs.ReadingLemmas.{all_read-none}
use Rattle.col_merge.proofs.ShortLoopLemmas.{turn-passed, turn-read, turn-stopped, turn-taken}
use Rattle.col_merge.proofs.ShortTurnLemmas.{turns-start, turns-end, start-later, drop-past}
use Rattle.col_merge.proofs.short.open_short.Goals as goal
use Rattle.col_merge.proofs.short.open_short.Goals.{then-next-segment+in_ok-open_behind, else-next-segment}

pub loop-place-init : goal.loop-place-init
loop-place-init g c =
    let rs = c.args.columnar_readers.now in
    let slot = c.args.slot.now in (
      all_read-none (slot_reads slot) rs,
      refl,
      omega arith,
      c.requires.segments,
      turns-start slot rs c.new-short.result.counts.items c.new-short.result.columns.items c.new-short.ensures.counts
          c.new-short.ensures.columns,
    )

pub overflow_sub-gap : goal.overflow_sub-gap
overflow_sub-gap g c =
    let later = start-later c.args.order.now c.loop-place.next
    (slice_index_or c.args.segments.now c.loop-place.place-index 0) (omega (arith, c.if-next-segment.true)) in
    omega (arith, later, c.offset.ensures, c.offset-then-next-segment.ensures)

pub returns-in_err-open_behind-clause-err : goal.returns-in_err-open_behind-clause-err
returns-in_err-open_behind-clause-err g c =
    let p = err_from_is_err_and c.from_residual.result c.from_residual.ensures.1 in
    rw (p.1, p.2) (turn-stopped c.args.slot.now c.args.columnar_readers.now c.loop-place.columnar_readers c.loop-place.next
    c.loop-place.place-index c.args.segments.now c.loop-place.short.counts.items c.loop-place.short.columns.items
    c.loop-place.invariant (omega (arith, c.loop-place-test.true)) (omega (arith, c.if-next-segment.true))
    c.index-columnar_readers-segment.result c.open_behind.new.reader c.in_err-open_behind.field-0.0
    c.in_err-open_behind.ensures.err)

pub returns-in_err-open_behind-clause-kept : goal.returns-in_err-open_behind-clause-kept
returns-in_err-open_behind-clause-kept g c =
    turn-read c.args.slot.now c.args.columnar_readers.now c.loop-place.columnar_readers c.loop-place.next
    c.loop-place.place-index c.args.segments.now c.loop-place.short.counts.items c.loop-place.short.columns.items
    c.loop-place.invariant (omega (arith, c.loop-place-test.true)) (omega (arith, c.if-next-segment.true))
    c.index-columnar_readers-segment.result c.open_behind.new.reader c.in_err-open_behind.ensures.kept

pub loop-place-preserved : goal.loop-place-preserved
loop-place-preserved g c = elim c.if-next-segment.branch [
  | then-next-segment+in_ok-open_behind w ↦
      let gap = ap₂ (λ m n. m - n) w.offset.ensures w.offset-then-next-segment.ensures in
      rw (w.columnar_readers-is, w.short-is, w.next-is) (turn-taken c.args.slot.now c.args.columnar_readers.now
      c.loop-place.columnar_readers c.loop-place.next c.loop-place.place-index c.args.segments.now
      c.loop-place.short.counts.items c.loop-place.short.columns.items c.loop-place.invariant
      (omega (arith, c.loop-place-test.true)) (omega (arith, w.if-next-segment.true))
      w.index-columnar_readers-segment.result w.open_behind.new.reader c.args.order.now c.requires.read
      c.requires.counts (w.offset.result - w.offset-then-next-segment.result) gap
      w.open_behind.new.short.counts.items w.open_behind.new.short.columns.items w.in_ok-open_behind.ensures.kept
      w.in_ok-open_behind.ensures.ok)
  | else-next-segment w ↦
      rw (w.columnar_readers-is, w.short-is, w.next-is) (turn-passed c.args.slot.now c.args.columnar_readers.now
      c.loop-place.columnar_readers c.loop-place.next c.loop-place.place-index c.args.segments.now
      c.loop-place.short.counts.items c.loop-place.short.columns.items c.loop-place.invariant
      (omega (arith, c.loop-place-test.true)) (omega (arith, w.if-next-segment.false)))
]

pub returns-clause-ok : goal.returns-clause-ok
returns-clause-ok g c =
    let rs = c.args.columnar_readers.now in
    let none = drop-past c.args.segments.now c.loop-place.place-index (omega (arith, c.loop-place-test.false)) in
    turns-end c.args.slot.now rs c.requires.read c.args.order.now c.requires.counts c.loop-place.next
    c.loop-place.short.counts.items c.loop-place.short.columns.items c.loop-place.invariant.4
    (subst (AreSegmentsFrom c.loop-place.next c.args.slot.now (keys_read rs)) none c.loop-place.invariant.3)
    c.loop-place.invariant.2 (c.num_rows.result - c.offset-2.result)
    (ap₂ (λ m n. m - n) c.num_rows.ensures c.offset-2.ensures) c.push_gap.new.self.counts.items
    c.push_gap.new.self.columns.items c.in_ok-push_gap.ensures.counts c.in_ok-push_gap.ensures.columns
