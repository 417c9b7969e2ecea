use Rattle.std.proofs.Common.{[], get_or, refl, subst, sym, arith}
use Rattle.std.proofs.lemmas.Option.{slice_get-get_or}
use Rattle.std.proofs.lemmas.Result.{err_from_is_err_and}
use Rattle.col_merge.specs.Opened.{AllOpenedAs}
use Rattle.col_merge.specs.Readings.{slot_reads}
use Rattle.col_merge.proofs.OpenTurnLemmas.{opened-more, opened-stops}
use Rattle.col_merge.proofs.ReadingLemmas.{all_read-at, all_read-none, all_read-set, left-at, left-set}
use Rattle.col_merge.proofs.opening.open_columns.Goals as goal

pub loop-segment-init : goal.loop-segment-init
loop-segment-init g c = (
  all_read-none (slot_reads c.args.slot.now) c.args.columnar_readers.now,
  refl,
  subst (AllOpenedAs c.args.slot.now []) (sym c.new-columns.ensures.items) tt,
)

pub returns-in_err-column-clause-err : goal.returns-in_err-column-clause-err
returns-in_err-column-clause-err g c =
    let olds = c.args.columnar_readers.now in
    let mids = c.loop-segment.columnar_readers in
    let at = c.loop-segment.segment in
    let now = get_or mids at c.index-columnar_readers-segment.result in
    let is = slice_get-get_or mids at c.index-columnar_readers-segment.result (omega arith) in
    let p = err_from_is_err_and c.from_residual.result c.from_residual.ensures.1 in
    rw (p.1, p.2) (opened-stops c.args.slot.now olds mids at now c.open_in.new.reader c.in_err-column.field-0.0
    (left-at olds mids at now c.loop-segment.invariant.1 is) is c.in_err-column.ensures.err)

pub returns-in_err-column-clause-kept : goal.returns-in_err-column-clause-kept
returns-in_err-column-clause-kept g c =
    all_read-at (slot_reads c.args.slot.now) c.args.columnar_readers.now c.loop-segment.columnar_readers
    c.loop-segment.segment c.index-columnar_readers-segment.result c.open_in.new.reader c.loop-segment.invariant.0
    c.loop-segment.invariant.1 (omega arith) c.in_err-column.ensures.kept

pub returns-in_err-push-clause-kept : goal.returns-in_err-push-clause-kept
returns-in_err-push-clause-kept g c =
    all_read-at (slot_reads c.args.slot.now) c.args.columnar_readers.now c.loop-segment.columnar_readers
    c.loop-segment.segment c.index-columnar_readers-segment.result c.open_in.new.reader c.loop-segment.invariant.0
    c.loop-segment.invariant.1 (omega arith) c.in_ok-column.ensures.kept

pub loop-segment-preserved : goal.loop-segment-preserved
loop-segment-preserved g c =
    let olds = c.args.columnar_readers.now in
    let mids = c.loop-segment.columnar_readers in
    let at = c.loop-segment.segment in
    let now = get_or mids at c.index-columnar_readers-segment.result in
    let is = slice_get-get_or mids at c.index-columnar_readers-segment.result (omega arith) in
    let was = left-at olds mids at now c.loop-segment.invariant.1 is in (
      all_read-set (slot_reads c.args.slot.now) olds mids at now c.open_in.new.reader c.loop-segment.invariant.0 was
          c.in_ok-column.ensures.kept,
      left-set olds mids at c.open_in.new.reader c.loop-segment.invariant.1,
      rw c.in_ok-push.ensures.items (opened-more c.args.slot.now olds at now c.loop-segment.columns.items
          c.in_ok-column.column was c.loop-segment.invariant.2 c.in_ok-column.ensures.ok),
    )
