use Rattle.std.proofs.Common.{◌+◌, sym, ap, refl, ◌∙◌, ◌∷◌, arith}
use Rattle.col_common.specs.declared.iterable.Walk.{Walk}
use Rattle.col_indexer.specs.Stacks.{index_segments, stacked_rows_to_give}
use Rattle.col_indexer.proofs.StackedWalkLemmas.{behind_row, row_ranked, row_read, row_fits, row_stands, row_given, segment_stands, segment_left, rows_end}
use Rattle.col_indexer.proofs.stacked.next_row.Goals as goal

pub overflow_cast-at : goal.overflow_cast-at
overflow_cast-at c = omega (arith, c.loop-at.invariant.stands.row.small)

pub row_at-requires : goal.row_at-requires
row_at-requires c =
    row_ranked c.args.column_indexes.now c.args.order.now c.loop-at.at _ _ _ c.requires.segments.fit (omega arith)
    c.segment_num_rows-num_rows.ensures c.index-column_indexes-segment.is c.loop-at.invariant.stands.row.ranked

pub overflow_add-at : goal.overflow_add-at
overflow_add-at c =
    let read = row_read c.args.column_indexes.now c.args.order.now c.loop-at.at _ _ _ _ _ c.requires.segments.fit
    (omega arith) c.segment_num_rows-num_rows.ensures c.index-column_indexes-segment.is c.row_at.ensures
    c.in-Some.is in
    let fits = row_fits (index_segments c.args.column_indexes.now c.args.order.now) c.loop-at.at c.loop-at.at
    c.requires.segments c.loop-at.invariant.stands (omega arith) c.in-Some.row read in
    omega (arith, fits.1)

pub overflow_cast-result : goal.overflow_cast-result
overflow_cast-result c =
    let read = row_read c.args.column_indexes.now c.args.order.now c.loop-at.at _ _ _ _ _ c.requires.segments.fit
    (omega arith) c.segment_num_rows-num_rows.ensures c.index-column_indexes-segment.is c.row_at.ensures
    c.in-Some.is in
    let fits = row_fits (index_segments c.args.column_indexes.now c.args.order.now) c.loop-at.at c.loop-at.at
    c.requires.segments c.loop-at.invariant.stands (omega arith) c.in-Some.row read in
    omega (arith, fits.0, c.from.ensures)

pub returns-in-Some-clause-stands : goal.returns-in-Some-clause-stands
returns-in-Some-clause-stands c =
    let read = row_read c.args.column_indexes.now c.args.order.now c.loop-at.at _ _ _ _ _ c.requires.segments.fit
    (omega arith) c.segment_num_rows-num_rows.ensures c.index-column_indexes-segment.is c.row_at.ensures
    c.in-Some.is in
    row_stands (index_segments c.args.column_indexes.now c.args.order.now) c.loop-at.at _ c.requires.segments
    c.loop-at.invariant.stands (omega arith) c.in-Some.row read refl refl (ap (λ n. n + 1) c.from.ensures) refl

pub returns-in-Some-clause-value : goal.returns-in-Some-clause-value
returns-in-Some-clause-value c =
    let read = row_read c.args.column_indexes.now c.args.order.now c.loop-at.at _ _ _ _ _ c.requires.segments.fit
    (omega arith) c.segment_num_rows-num_rows.ensures c.index-column_indexes-segment.is c.row_at.ensures
    c.in-Some.is in
    let after = behind_row c.loop-at.at c.from.result in
    sym c.loop-at.invariant.left
    ∙ row_given (index_segments c.args.column_indexes.now c.args.order.now) c.loop-at.at after c.requires.segments
    c.loop-at.invariant.stands (omega arith) c.in-Some.row read refl refl refl
    ∙ ap (λ row. (c.loop-at.at.sum + row)
    ∷ stacked_rows_to_give (index_segments c.args.column_indexes.now c.args.order.now) after) (sym c.from-in-Some.ensures)

pub loop-at-preserved : goal.loop-at-preserved
loop-at-preserved c =
    let read = row_read c.args.column_indexes.now c.args.order.now c.loop-at.at _ _ _ _ _ c.requires.segments.fit
    (omega arith) c.segment_num_rows-num_rows.ensures c.index-column_indexes-segment.is c.row_at.ensures
    c.in-None.is in
    let after : Walk = record {
      segment = c.loop-at.at.segment + 1;
      place = 0;
      inner = 0;
      sum = c.loop-at.at.sum + c.from-in-None.result;
    } in
    let sum = ap (λ n. c.loop-at.at.sum + n) (c.from-in-None.ensures ∙ c.segment_num_rows-num_rows.ensures) in
    record {
      stands =
          segment_stands (index_segments c.args.column_indexes.now c.args.order.now) c.loop-at.at after
          c.requires.segments c.loop-at.invariant.stands (omega arith) read refl refl refl sum;
      left =
          segment_left (index_segments c.args.column_indexes.now c.args.order.now) c.loop-at.at after
          c.requires.segments c.loop-at.invariant.stands (omega arith) read refl refl sum
          ∙ c.loop-at.invariant.left;
    }

pub returns-clause-value : goal.returns-clause-value
returns-clause-value c =
    let left = rows_end (index_segments c.args.column_indexes.now c.args.order.now) c.loop-at.at c.requires.segments (omega arith) in
    (sym c.loop-at.invariant.left ∙ left, left)
