use Rattle.std.proofs.Common.{◌+◌, ◌∙◌, false, inr, refl, sym, ap, arith}
use Rattle.std.proofs.lemmas.Result.{err_from_is_err_and}
use Rattle.col_order.specs.Orders.{counts_of}
use Rattle.col_order.specs.RowOrders.{order_of}
use Rattle.col_merge_slot.specs.Segments.{where_set, is_none_or, is_read_as}
use Rattle.col_merge_slot.specs.Texts.{text_type}
use Rattle.col_merge_slot.proofs.TakenLemmas.{taken-more, taken-all}
use Rattle.col_merge_slot.proofs.SegmentLemmas.{length-set, taken, tested-at, rows-of, left-behind}
use Rattle.col_merge_slot.proofs.TextPartLemmas.{one-text, all-texts, text-not-read, text-as}
use Rattle.col_merge_slot.proofs.texts.segment_texts.Goals as goal

pub text_at-requires : goal.text_at-requires
text_at-requires c =
    rows-of (counts_of (order_of c.args.merge_row_order.now)) c.args.columns.now c.loop-segment.columns
    c.loop-segment.segment c.segment_num_rows-num_rows.result c.index-columns-segment.result c.requires.rows
    (omega (arith, c.loop-segment-test.true)) c.loop-segment.invariant.left c.segment_num_rows-num_rows.ensures

pub returns-in_default-clause-err : goal.returns-in_default-clause-err
returns-in_default-clause-err c =
    let columns = c.args.columns.now in
    let flags = c.args.kept.now in
    let i = c.loop-segment.segment in
    inr (
      refl,
      text-not-read (text_type c.args.is_text) (where_set columns flags) i
          (omega (arith, length-set columns flags, c.loop-segment-test.true))
          (tested-at (is_none_or (is_read_as (text_type c.args.is_text))) c.loop-segment.columns columns flags i
          c.index-columns-segment.result false (omega (arith, c.loop-segment-test.true)) c.loop-segment.invariant.left
          c.in_default.ensures.read),
    )

pub loop-segment-preserved : goal.loop-segment-preserved
loop-segment-preserved c =
    let columns = c.args.columns.now in
    let flags = c.args.kept.now in
    let i = c.loop-segment.segment in
    let here = taken c.loop-segment.columns columns flags i c.index-columns-segment.result
    (omega (arith, c.loop-segment-test.true)) c.loop-segment.invariant.left in
    record {
      texts =
          one-text (text_type c.args.is_text) (counts_of (order_of c.args.merge_row_order.now))
          (where_set columns flags) i c.loop-segment.texts.items c.push.new.self.items c.in-Some.text
          (omega (arith, length-set columns flags, c.loop-segment-test.true)) c.loop-segment.invariant.texts
          (ap (is_none_or (is_read_as (text_type c.args.is_text))) (sym here) ∙ sym c.in-Some.ensures.read)
          (text-as c.segment_num_rows-num_rows.result _ _ _ c.in-Some.text c.segment_num_rows-num_rows.ensures here
          c.in-Some.ensures.text) c.in_ok-push.ensures.items;
      left = left-behind c.loop-segment.columns columns i c.text_at.new.column c.loop-segment.invariant.left;
      taken =
          taken-more c.loop-segment.columns columns flags i c.index-columns-segment.result c.text_at.new.column
          (omega (arith, c.loop-segment-test.true)) c.requires.flags c.loop-segment.invariant.left
          c.loop-segment.invariant.taken c.text_at.ensures.taken;
    }

pub returns-clause-ok : goal.returns-clause-ok
returns-clause-ok c =
    let columns = c.args.columns.now in
    let flags = c.args.kept.now in
    let long = length-set columns flags in
    all-texts (text_type c.args.is_text) (counts_of (order_of c.args.merge_row_order.now)) (where_set columns flags)
    c.loop-segment.segment c.loop-segment.texts.items (long ∙ c.requires.rows.segments)
    (omega (arith, long, c.loop-segment-test.false)) (omega (arith, long, c.loop-segment.auto.segment-end))
    c.loop-segment.invariant.texts

pub returns-in_default-clause-taken : goal.returns-in_default-clause-taken
returns-in_default-clause-taken c =
    let columns = c.args.columns.now in
    let flags = c.args.kept.now in
    let i = c.loop-segment.segment in
    record {
      place = i;
      before = c.loop-segment.invariant.texts.read;
      unfit =
          tested-at (is_none_or (is_read_as (text_type c.args.is_text))) c.loop-segment.columns columns flags i
          c.index-columns-segment.result false (omega (arith, c.loop-segment-test.true))
          c.loop-segment.invariant.left c.in_default.ensures.read;
      left =
          taken-more c.loop-segment.columns columns flags i c.index-columns-segment.result c.text_at.new.column
          (omega (arith, c.loop-segment-test.true)) c.requires.flags c.loop-segment.invariant.left
          c.loop-segment.invariant.taken c.in_default.ensures.taken;
    }

pub returns-in_err-push-clause-taken : goal.returns-in_err-push-clause-taken
returns-in_err-push-clause-taken c =
    let i = c.loop-segment.segment in
    let p = err_from_is_err_and c.from_residual-in_err-push.result c.from_residual-in_err-push.ensures.1 in
    rw (p.1, p.2) (record {
      count = i + 1;
      left =
          taken-more c.loop-segment.columns c.args.columns.now c.args.kept.now i c.index-columns-segment.result c.text_at.new.column
          (omega (arith, c.loop-segment-test.true)) c.requires.flags c.loop-segment.invariant.left
          c.loop-segment.invariant.taken c.in-Some.ensures.taken;
    })

pub returns-clause-taken : goal.returns-clause-taken
returns-clause-taken c =
    taken-all c.args.columns.now c.args.kept.now _ c.loop-segment.segment c.loop-segment.invariant.taken
    (omega (arith, c.loop-segment-test.false))

pub returns-in_err-texts-clause-taken : goal.returns-in_err-texts-clause-taken
returns-in_err-texts-clause-taken c =
    let p = err_from_is_err_and c.from_residual.result c.from_residual.ensures.1 in
    rw (p.1, p.2) (record { count = 0; left = refl })
