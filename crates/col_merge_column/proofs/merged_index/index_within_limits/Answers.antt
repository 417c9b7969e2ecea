use Rattle.std.proofs.Common.{map, not, sym, ap, ◌∙◌}
use Rattle.col_index.specs.Indexes.{shape_of}
use Rattle.col_indexer.specs.Written.{index_of}
use Rattle.col_order.specs.RowOrders.{order_of}
use Rattle.col_merge_column.proofs.LimitLemmas.{past-rows, within-limits}
use Rattle.col_merge_column.proofs.merged_index.index_within_limits.Goals as goal

pub returns-then-is_past_limit-clause-some : goal.returns-then-is_past_limit-clause-some
returns-then-is_past_limit-clause-some c =
    let merged = c.merge_column_index-index in
    sym (ap not (past-rows (order_of c.args.merge_row_order.now) (map shape_of c.args.column_indexes.now)
    (index_of merged.result) merged.ensures.counts merged.ensures.index
    (sym c.is_past_limit.ensures ∙ c.if-is_past_limit.true)))

pub returns-clause-some : goal.returns-clause-some
returns-clause-some c =
    let merged = c.merge_column_index-index in
    sym (ap not (within-limits (order_of c.args.merge_row_order.now) (map shape_of c.args.column_indexes.now)
    (index_of merged.result) merged.ensures.counts merged.ensures.index
    (sym c.has_many_cells.ensures ∙ c.if-has_many_cells.false)
    (sym c.is_past_limit.ensures ∙ c.if-is_past_limit.false)).0)
