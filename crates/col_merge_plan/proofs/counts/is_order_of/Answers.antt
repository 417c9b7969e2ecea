use Rattle.std.proofs.Common.{◌≡◌, length, sym, ◌∙◌, arith}
use Rattle.col_order.specs.Orders.{counts_of}
use Rattle.col_order.specs.RowOrders.{order_of}
use Rattle.col_merge_plan.proofs.CountLemmas.{counts-more, counts-stop}
use Rattle.col_merge_plan.proofs.counts.is_order_of.Goals as goal

pub returns-then-segment_num_rows-num_docs : goal.returns-then-segment_num_rows-num_docs
returns-then-segment_num_rows-num_docs g c =
    let own = counts_of (order_of c.args.merge_row_order.now) in
    let rs = c.args.columnar_readers.now in
    let long : length own ≡ length rs = sym c.num_segments.ensures ∙ c.if-num_segments-columnar_readers.false in
    sym (c.loop-segment.invariant
    ∙ counts-stop own rs c.loop-segment.segment c.segment_num_rows.result c.num_docs-num_docs.result
    c.index-columnar_readers-segment.result long (omega arith) c.index-columnar_readers-segment.is
    c.segment_num_rows.ensures c.num_docs-num_docs.ensures c.if-segment_num_rows-num_docs.true)

pub loop-segment-preserved : goal.loop-segment-preserved
loop-segment-preserved g c =
    let own = counts_of (order_of c.args.merge_row_order.now) in
    let rs = c.args.columnar_readers.now in
    let long : length own ≡ length rs = sym c.num_segments.ensures ∙ c.if-num_segments-columnar_readers.false in
    c.loop-segment.invariant ∙ counts-more own rs c.loop-segment.segment c.segment_num_rows.result
    c.num_docs-num_docs.result c.index-columnar_readers-segment.result long (omega arith)
    c.index-columnar_readers-segment.is c.segment_num_rows.ensures c.num_docs-num_docs.ensures
    c.if-segment_num_rows-num_docs.false
