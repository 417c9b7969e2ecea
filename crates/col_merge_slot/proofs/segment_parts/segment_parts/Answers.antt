use Rattle.std.proofs.Common.{◌+◌, ◌∙◌, false, inr, map, [], ◌∷◌, refl, sym, ap, arith}
use Rattle.std.proofs.lemmas.List.{map-append}
use Rattle.std.proofs.lemmas.Result.{err_from_is_err_and}
use Rattle.col_index.specs.Indexes.{shape_of}
use Rattle.col_order.specs.Orders.{counts_of}
use Rattle.col_order.specs.RowOrders.{order_of}
use Rattle.col_merge_slot.specs.Segments.{where_set, is_none_or, is_read_as}
use Rattle.col_merge_slot.proofs.TakenLemmas.{taken-more, taken-all}
use Rattle.col_merge_slot.proofs.SegmentLemmas.{length-set, taken, tested-at, rows-of, left-behind, one-more, not-read, all-parts}
use Rattle.col_merge_slot.proofs.segment_parts.segment_parts.Goals as goal

pub part_at-requires : goal.part_at-requires
part_at-requires g c =
    rows-of (counts_of (order_of c.args.merge_row_order.now)) c.args.columns.now c.loop-segment.columns
    c.loop-segment.segment c.segment_num_rows-num_rows.result c.index-columns-segment.result c.requires.rows
    (omega (arith, c.loop-segment-test.true)) c.loop-segment.invariant.left c.segment_num_rows-num_rows.ensures

pub returns-in_default-clause-err : goal.returns-in_default-clause-err
returns-in_default-clause-err g c =
    let columns = c.args.columns.now in
    let flags = c.args.kept.now in
    let i = c.loop-segment.segment in
    inr (
      refl,
      not-read g.V.SegmentValues.kind g.V.SegmentValues.count g.V.SegmentValues.content
          (counts_of (order_of c.args.merge_row_order.now)) (where_set columns flags) i
          (omega (arith, length-set columns flags, c.loop-segment-test.true))
          (tested-at (is_none_or (is_read_as g.V.SegmentValues.kind)) c.loop-segment.columns columns flags i
          c.index-columns-segment.result false (omega (arith, c.loop-segment-test.true)) c.loop-segment.invariant.left
          c.in_default.ensures.read),
    )

pub loop-segment-preserved : goal.loop-segment-preserved
loop-segment-preserved g c =
    let columns = c.args.columns.now in
    let flags = c.args.kept.now in
    let i = c.loop-segment.segment in
    let indexes = c.loop-segment.indexes.items in
    let values = c.loop-segment.values.items in
    let part = c.in-Some.part in
    let here = taken c.loop-segment.columns columns flags i c.index-columns-segment.result
    (omega (arith, c.loop-segment-test.true)) c.loop-segment.invariant.left in
    record {
      parts =
          one-more g.V.SegmentValues.kind g.V.SegmentValues.count g.V.SegmentValues.content
          (counts_of (order_of c.args.merge_row_order.now)) (where_set columns flags) i (map shape_of indexes)
          (map shape_of c.push_part.new.indexes.items) values c.push_part.new.values.items
          c.segment_num_rows-num_rows.result _ (shape_of part.0) part.1
          (omega (arith, length-set columns flags, c.loop-segment-test.true)) c.loop-segment.invariant.parts
          c.segment_num_rows-num_rows.ensures here (sym c.in-Some.ensures.read) c.in-Some.ensures.part
          (ap (map shape_of) c.in_ok-push_part.ensures.index ∙ map-append shape_of indexes (part.0 ∷ [])) c.in_ok-push_part.ensures.values;
      left = left-behind c.loop-segment.columns columns i c.part_at.new.column c.loop-segment.invariant.left;
      taken =
          taken-more c.loop-segment.columns columns flags i c.index-columns-segment.result c.part_at.new.column
          (omega (arith, c.loop-segment-test.true)) c.requires.flags c.loop-segment.invariant.left
          c.loop-segment.invariant.taken c.part_at.ensures.taken;
    }

pub returns-clause-ok : goal.returns-clause-ok
returns-clause-ok g c =
    let columns = c.args.columns.now in
    let flags = c.args.kept.now in
    let long = length-set columns flags in
    all-parts g.V.SegmentValues.kind g.V.SegmentValues.count g.V.SegmentValues.content
    (counts_of (order_of c.args.merge_row_order.now)) (where_set columns flags) c.loop-segment.segment
    (map shape_of c.loop-segment.indexes.items) c.loop-segment.values.items (long ∙ c.requires.rows.segments)
    (omega (arith, long, c.loop-segment-test.false)) (omega (arith, long, c.loop-segment.auto.segment-end))
    c.loop-segment.invariant.parts

pub returns-in_default-clause-taken : goal.returns-in_default-clause-taken
returns-in_default-clause-taken g c =
    let columns = c.args.columns.now in
    let flags = c.args.kept.now in
    let i = c.loop-segment.segment in
    record {
      place = i;
      before = c.loop-segment.invariant.parts.read;
      unfit =
          tested-at (is_none_or (is_read_as g.V.SegmentValues.kind)) c.loop-segment.columns columns flags i
          c.index-columns-segment.result false (omega (arith, c.loop-segment-test.true))
          c.loop-segment.invariant.left c.in_default.ensures.read;
      left =
          taken-more c.loop-segment.columns columns flags i c.index-columns-segment.result c.part_at.new.column
          (omega (arith, c.loop-segment-test.true)) c.requires.flags c.loop-segment.invariant.left
          c.loop-segment.invariant.taken c.in_default.ensures.taken;
    }

pub returns-in_err-push_part-clause-taken : goal.returns-in_err-push_part-clause-taken
returns-in_err-push_part-clause-taken g c =
    let i = c.loop-segment.segment in
    let p = err_from_is_err_and c.from_residual-in_err-push_part.result c.from_residual-in_err-push_part.ensures.1 in
    rw (p.1, p.2) (record {
      count = i + 1;
      left =
          taken-more c.loop-segment.columns c.args.columns.now c.args.kept.now i c.index-columns-segment.result c.part_at.new.column
          (omega (arith, c.loop-segment-test.true)) c.requires.flags c.loop-segment.invariant.left
          c.loop-segment.invariant.taken c.in-Some.ensures.taken;
    })

pub returns-clause-taken : goal.returns-clause-taken
returns-clause-taken g c =
    taken-all c.args.columns.now c.args.kept.now _ c.loop-segment.segment c.loop-segment.invariant.taken
    (omega (arith, c.loop-segment-test.false))

pub returns-in_err-indexes-clause-taken : goal.returns-in_err-indexes-clause-taken
returns-in_err-indexes-clause-taken g c =
    let p = err_from_is_err_and c.from_residual.result c.from_residual.ensures.1 in
    rw (p.1, p.2) (record { count = 0; left = refl })

pub returns-in_err-values-clause-taken : goal.returns-in_err-values-clause-taken
returns-in_err-values-clause-taken g c =
    let p = err_from_is_err_and c.from_residual-in_err-values.result c.from_residual-in_err-values.ensures.1 in
    rw (p.1, p.2) (record { count = 0; left = refl })
