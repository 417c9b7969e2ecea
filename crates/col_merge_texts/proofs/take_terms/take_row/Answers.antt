use Rattle.std.proofs.lemmas.Result.{err_from_is_err_and}
use Rattle.col_merge_texts.proofs.IdLemmas.{ids-start, ids-next, ids-end}
use Rattle.col_merge_texts.proofs.RowLemmas.{segment-there, column-there, row-there, row-held, row-start, next-below, next-within, next-held, next-more, next-refused, row-end}
use Rattle.col_merge_texts.proofs.take_terms.take_row.Goals as goal

-- ---- the row

pub bounds-bytes_columns-segment : goal.bounds-bytes_columns-segment
bounds-bytes_columns-segment c =
    let a = c.row_addr-row_addr.result in
    segment-there c.args.bytes_columns.now c.args.order.now.counts c.args.order.now.addresses c.args.row
    (a.segment_ord, a.row_id) c.requires.fit c.rows_are_there.ensures c.row_addr-row_addr.ensures

pub term_ords-ords-requires : goal.term_ords-ords-requires
term_ords-ords-requires c =
    let a = c.row_addr-row_addr.result in
    row-there c.args.bytes_columns.now c.args.order.now.counts c.args.order.now.addresses c.args.row
    (a.segment_ord, a.row_id) c.requires.fit c.rows_are_there.ensures c.row_addr-row_addr.ensures
    c.index-bytes_columns-segment.result c.index-bytes_columns-segment.is

pub loop-ord-init : goal.loop-ord-init
loop-ord-init c =
    let a = c.row_addr-row_addr.result in
    let column = column-there c.args.bytes_columns.now c.args.order.now.counts c.args.order.now.addresses c.args.row
    (a.segment_ord, a.row_id) c.requires.fit c.rows_are_there.ensures c.row_addr-row_addr.ensures
    c.index-bytes_columns-segment.result c.index-bytes_columns-segment.is in
    record {
      takes =
          row-start c.args.bytes_columns.now c.args.order.now.addresses c.args.row (a.segment_ord, a.row_id)
          c.index-bytes_columns-segment.result c.term_ords-ords.result c.args.noted.now
          c.row_addr-row_addr.ensures column c.term_ords-ords.ensures c.requires.noted;
      ids =
          ids-start c.args.bytes_columns.now c.args.order.now.addresses c.args.row (a.segment_ord, a.row_id)
          c.term_ords-ords.result c.args.noted.now c.args.ids.now.items c.row_addr-row_addr.ensures
          (row-held c.args.bytes_columns.now (a.segment_ord, a.row_id) c.index-bytes_columns-segment.result
          c.term_ords-ords.result column c.term_ords-ords.ensures) c.requires.ids;
    }

-- ---- its next term

pub note-requires-clause-term : goal.note-requires-clause-term
note-requires-clause-term c =
    let a = c.row_addr-row_addr.result in
    let column = column-there c.args.bytes_columns.now c.args.order.now.counts c.args.order.now.addresses c.args.row
    (a.segment_ord, a.row_id) c.requires.fit c.rows_are_there.ensures c.row_addr-row_addr.ensures
    c.index-bytes_columns-segment.result c.index-bytes_columns-segment.is in
    next-below column c.in-Some.ensures.steps c.loop-ord.invariant.takes

pub note-requires-clause-place : goal.note-requires-clause-place
note-requires-clause-place c =
    let a = c.row_addr-row_addr.result in
    let column = column-there c.args.bytes_columns.now c.args.order.now.counts c.args.order.now.addresses c.args.row
    (a.segment_ord, a.row_id) c.requires.fit c.rows_are_there.ensures c.row_addr-row_addr.ensures
    c.index-bytes_columns-segment.result c.index-bytes_columns-segment.is in
    next-within column c.in-Some.ensures.steps c.loop-ord.invariant.takes

pub note-requires-clause-held : goal.note-requires-clause-held
note-requires-clause-held c =
    let a = c.row_addr-row_addr.result in
    let column = column-there c.args.bytes_columns.now c.args.order.now.counts c.args.order.now.addresses c.args.row
    (a.segment_ord, a.row_id) c.requires.fit c.rows_are_there.ensures c.row_addr-row_addr.ensures
    c.index-bytes_columns-segment.result c.index-bytes_columns-segment.is in
    next-held column c.in-Some.ensures.steps c.loop-ord.invariant.takes

pub returns-in_err-note-clause-err : goal.returns-in_err-note-clause-err
returns-in_err-note-clause-err c =
    let a = c.row_addr-row_addr.result in
    let column = column-there c.args.bytes_columns.now c.args.order.now.counts c.args.order.now.addresses c.args.row
    (a.segment_ord, a.row_id) c.requires.fit c.rows_are_there.ensures c.row_addr-row_addr.ensures
    c.index-bytes_columns-segment.result c.index-bytes_columns-segment.is in
    let p = err_from_is_err_and c.from_residual.result c.from_residual.ensures.1 in
    rw (p.1, p.2) (next-refused column c.in-Some.ensures.steps c.loop-ord.invariant.takes c.args.order.now.counts
    c.in_err-note.field-0.0 c.in_err-note.ensures.err)

pub loop-ord-preserved : goal.loop-ord-preserved
loop-ord-preserved c =
    let a = c.row_addr-row_addr.result in
    let column = column-there c.args.bytes_columns.now c.args.order.now.counts c.args.order.now.addresses c.args.row
    (a.segment_ord, a.row_id) c.requires.fit c.rows_are_there.ensures c.row_addr-row_addr.ensures
    c.index-bytes_columns-segment.result c.index-bytes_columns-segment.is in
    record {
      takes = next-more column c.in-Some.ensures.steps c.loop-ord.invariant.takes c.note.new.self c.in_ok-note.ensures.ok;
      ids =
          ids-next c.args.bytes_columns.now c.args.order.now.addresses c.args.row a.segment_ord c.loop-ord.ords _
          c.in-Some.ord _ c.loop-ord.noted c.note.new.self c.loop-ord.ids.items _ _
          c.in-Some.ensures.steps c.in_ok-note.ensures.ok c.in_ok-note.ensures.id c.in_ok-push.ensures.items c.loop-ord.invariant.ids;
    }

-- ---- its end

pub returns-clause-ok : goal.returns-clause-ok
returns-clause-ok c =
    row-end c.args.bytes_columns.now c.args.order.now.addresses _ c.row_addr-row_addr.result.segment_ord
    c.loop-ord.ords c.loop-ord.noted c.in_default.ensures.steps.0 c.loop-ord.invariant.takes

pub returns-clause-ids : goal.returns-clause-ids
returns-clause-ids c =
    ids-end c.args.bytes_columns.now c.args.order.now.addresses c.args.row c.row_addr-row_addr.result.segment_ord
    c.loop-ord.ords c.loop-ord.noted c.loop-ord.ids.items c.in_default.ensures.steps.0 c.loop-ord.invariant.ids
