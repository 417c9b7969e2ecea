use Rattle.std.proofs.Common.{◌+◌, sym, ap, refl, ◌∙◌, ◌∷◌, arith}
use Rattle.col_common.specs.declared.iterable.Walk.{Walk}
use Rattle.col_indexer.specs.Stacks.{index_segments, stacked_offsets_to_give}
use Rattle.col_indexer.proofs.StackedOffsetLemmas.{end_read, hint_of_index, hint_of_segment, sum_read, first_stands, first_given, offsets_end, start_fits, start_stands, start_given, starts_stand, starts_left}
use Rattle.col_indexer.proofs.stacked.next_start.Goals as goal

pub returns-then-at-eq0-clause-stands : goal.returns-then-at-eq0-clause-stands
returns-then-at-eq0-clause-stands c =
    first_stands (index_segments c.args.column_indexes.now c.args.order.now) c.args.at.now _ c.requires.segments
    c.requires.stands c.if-at-eq0.true refl refl refl refl

pub returns-then-at-eq0-clause-value : goal.returns-then-at-eq0-clause-value
returns-then-at-eq0-clause-value c =
    first_given (index_segments c.args.column_indexes.now c.args.order.now) c.args.at.now
    (record { segment = c.args.at.now.segment; place = 1; inner = c.args.at.now.inner; sum = c.args.at.now.sum })
    c.requires.segments c.requires.stands c.if-at-eq0.true refl refl refl

pub overflow_cast-at : goal.overflow_cast-at
overflow_cast-at c = omega (arith, c.loop-at.invariant.stands.start.hint.small)

pub end_at-requires : goal.end_at-requires
end_at-requires c =
    hint_of_index c.args.column_indexes.now c.args.order.now c.loop-at.at.segment _ _ _ _ c.requires.segments.fit (omega arith)
    c.segment_num_rows-num_rows.ensures c.index-column_indexes-segment.is c.loop-at.invariant.stands.start.hint

pub overflow_add-at : goal.overflow_add-at
overflow_add-at c =
    let read = end_read c.args.column_indexes.now c.args.order.now c.loop-at.at _ _ _ c.requires.segments.fit
    (omega arith) c.segment_num_rows-num_rows.ensures c.index-column_indexes-segment.is
    c.loop-at.invariant.begun c.in-Some.ensures.end in
    let fits = start_fits (index_segments c.args.column_indexes.now c.args.order.now) c.loop-at.at c.loop-at.at
    c.requires.segments c.loop-at.invariant.stands (omega arith) c.in-Some.end read in
    omega (arith, fits.1)

pub overflow_cast-result-in-Some : goal.overflow_cast-result-in-Some
overflow_cast-result-in-Some c =
    let read = end_read c.args.column_indexes.now c.args.order.now c.loop-at.at _ _ _ c.requires.segments.fit
    (omega arith) c.segment_num_rows-num_rows.ensures c.index-column_indexes-segment.is
    c.loop-at.invariant.begun c.in-Some.ensures.end in
    let fits = start_fits (index_segments c.args.column_indexes.now c.args.order.now) c.loop-at.at c.loop-at.at
    c.requires.segments c.loop-at.invariant.stands (omega arith) c.in-Some.end read in
    omega (arith, fits.0, c.from.ensures)

pub returns-in-Some-clause-stands : goal.returns-in-Some-clause-stands
returns-in-Some-clause-stands c =
    let read = end_read c.args.column_indexes.now c.args.order.now c.loop-at.at _ _ _ c.requires.segments.fit
    (omega arith) c.segment_num_rows-num_rows.ensures c.index-column_indexes-segment.is
    c.loop-at.invariant.begun c.in-Some.ensures.end in
    let hint = hint_of_segment c.args.column_indexes.now c.args.order.now c.loop-at.at.segment _ _ _ _
    c.requires.segments.fit (omega arith) c.segment_num_rows-num_rows.ensures
    c.index-column_indexes-segment.is c.in-Some.ensures.hint in
    start_stands (index_segments c.args.column_indexes.now c.args.order.now) c.loop-at.at _ c.requires.segments
    c.loop-at.invariant.stands (omega arith) c.in-Some.end read c.in-Some.behind hint c.loop-at.invariant.begun refl refl
    c.from-at.ensures refl

pub returns-in-Some-clause-value : goal.returns-in-Some-clause-value
returns-in-Some-clause-value c =
    let read = end_read c.args.column_indexes.now c.args.order.now c.loop-at.at _ _ _ c.requires.segments.fit
    (omega arith) c.segment_num_rows-num_rows.ensures c.index-column_indexes-segment.is
    c.loop-at.invariant.begun c.in-Some.ensures.end in
    let after : Walk = record {
      segment = c.loop-at.at.segment;
      place = c.loop-at.at.place + 1;
      inner = c.from-at.result;
      sum = c.loop-at.at.sum;
    } in
    sym c.loop-at.invariant.left
    ∙ start_given (index_segments c.args.column_indexes.now c.args.order.now) c.loop-at.at after c.requires.segments
    c.loop-at.invariant.stands (omega arith) c.in-Some.end read refl refl refl
    ∙ ap (λ start. (c.loop-at.at.sum + start)
    ∷ stacked_offsets_to_give (index_segments c.args.column_indexes.now c.args.order.now) after)
    (sym c.from.ensures)

pub loop-at-preserved : goal.loop-at-preserved
loop-at-preserved c =
    let read = end_read c.args.column_indexes.now c.args.order.now c.loop-at.at _ _ _ c.requires.segments.fit
    (omega arith) c.segment_num_rows-num_rows.ensures c.index-column_indexes-segment.is
    c.loop-at.invariant.begun c.in-None.ensures.end in
    let after : Walk = record {
      segment = c.loop-at.at.segment + 1;
      place = 1;
      inner = 0;
      sum = c.loop-at.at.sum + c.from-in-None.result;
    } in
    let values = sum_read c.args.column_indexes.now c.args.order.now c.loop-at.at.segment _ _
    c.requires.segments.fit (omega arith) c.segment_num_rows-num_rows.ensures
    c.index-column_indexes-segment.is in
    let sum = ap (λ n. c.loop-at.at.sum + n) (c.from-in-None.ensures ∙ c.num_values.ensures ∙ values) in
    record {
      begun = omega arith;
      stands =
          starts_stand (index_segments c.args.column_indexes.now c.args.order.now) c.loop-at.at after
          c.requires.segments c.loop-at.invariant.stands (omega arith) read refl refl refl sum;
      left =
          starts_left (index_segments c.args.column_indexes.now c.args.order.now) c.loop-at.at after
          c.requires.segments c.loop-at.invariant.stands (omega arith) read refl refl sum
          ∙ c.loop-at.invariant.left;
    }

pub returns-clause-value : goal.returns-clause-value
returns-clause-value c =
    let left = offsets_end (index_segments c.args.column_indexes.now c.args.order.now) c.loop-at.at c.loop-at.at
    c.requires.segments c.loop-at.invariant.stands (omega arith) c.loop-at.invariant.begun in
    (sym c.loop-at.invariant.left ∙ left, left)
