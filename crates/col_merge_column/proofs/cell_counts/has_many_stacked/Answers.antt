use Rattle.std.proofs.Common.{◌+◌, map, get_or, refl, ap, ◌∙◌, arith}
use Rattle.std.proofs.lemmas.List.{length-map}
use Rattle.col_index.specs.Indexes.{shape_of}
use Rattle.col_indexer.specs.Merged.{is_over}
use Rattle.col_model.specs.Index.{empty_shape}
use Rattle.col_merge_column.proofs.CountLemmas.{totals, segment-at, segment-counted, stacked-total, length-totals, too-many, one-more, counted}
use Rattle.col_merge_column.proofs.cell_counts.has_many_stacked.Goals as goal

pub num_in_segment-requires-clause-there : goal.num_in_segment-requires-clause-there
num_in_segment-requires-clause-there c =
    let segment = segment-at c.args.order.now (map shape_of c.args.column_indexes.now) c.loop-segment.segment
    c.requires (omega (arith, c.loop-segment-test.true, c.num_segments-segment-end.ensures)) in
    omega (arith, segment.there, length-map c.args.column_indexes.now shape_of)

pub num_in_segment-requires-clause-over : goal.num_in_segment-requires-clause-over
num_in_segment-requires-clause-over c =
    let shapes = map shape_of c.args.column_indexes.now in
    let segment = segment-at c.args.order.now shapes c.loop-segment.segment c.requires
    (omega (arith, c.loop-segment-test.true, c.num_segments-segment-end.ensures)) in
    ap (λ n. is_over n (get_or shapes c.loop-segment.segment (empty_shape 0))) c.segment_num_rows-num_rows.ensures ∙ segment.over

pub returns-then-count-from : goal.returns-then-count-from
returns-then-count-from c =
    let counts = c.args.order.now in
    let shapes = map shape_of c.args.column_indexes.now in
    let total = segment-counted counts shapes c.loop-segment.segment _ c.from-count.result c.requires
    (omega (arith, c.loop-segment-test.true, c.num_segments-segment-end.ensures)) c.segment_num_rows-num_rows.ensures
    (c.from-count.ensures ∙ c.num_in_segment.ensures) in
    too-many (totals counts shapes) c.loop-segment.segment c.loop-segment.count c.from-count.result
    (c.loop-segment.count + c.from-count.result) _ (stacked-total counts shapes c.requires) total.0
    c.loop-segment.invariant.count_is total.1 refl (omega (arith, c.if-count-from.true, c.from.ensures))

pub loop-segment-preserved : goal.loop-segment-preserved
loop-segment-preserved c =
    let counts = c.args.order.now in
    let shapes = map shape_of c.args.column_indexes.now in
    let total = segment-counted counts shapes c.loop-segment.segment _ c.from-count.result c.requires
    (omega (arith, c.loop-segment-test.true, c.num_segments-segment-end.ensures)) c.segment_num_rows-num_rows.ensures
    (c.from-count.ensures ∙ c.num_in_segment.ensures) in
    record {
      count_is =
          one-more (totals counts shapes) c.loop-segment.segment c.loop-segment.count c.from-count.result
          (c.loop-segment.count + c.from-count.result) total.0 c.loop-segment.invariant.count_is total.1 refl;
      fits = omega (arith, c.if-count-from.false, c.from.ensures);
    }

pub returns : goal.returns
returns c =
    let counts = c.args.order.now in
    let shapes = map shape_of c.args.column_indexes.now in
    counted (totals counts shapes) c.loop-segment.segment c.loop-segment.count _
    (stacked-total counts shapes c.requires) (omega (
      arith,
      c.loop-segment-test.false,
      c.num_segments-segment-end.ensures,
      length-totals counts shapes c.requires,
    ))
    c.loop-segment.invariant.count_is c.loop-segment.invariant.fits
