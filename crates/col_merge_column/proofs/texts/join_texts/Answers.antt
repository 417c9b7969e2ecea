use Rattle.std.proofs.Common.{refl, ◌∙◌, ap, map, length}
use Rattle.std.proofs.lemmas.Result.{err_from_is_err_and}
use Rattle.col_index.specs.Indexes.{shape_of}
use Rattle.col_order.specs.Orders.{picks_of}
use Rattle.col_order.specs.RowOrders.{order_of}
use Rattle.col_merge_texts.specs.Merged.{merged_content}
use Rattle.col_merge_column.proofs.TextLemmas.{joins-no_memory}
use Rattle.col_merge_column.proofs.texts.join_texts.Goals as goal

pub returns-in_err-column_indexes : goal.returns-in_err-column_indexes
returns-in_err-column_indexes g c t has =
    let order = order_of c.args.merge_row_order.now in
    let p = err_from_is_err_and c.from_residual.result c.from_residual.ensures.1 in
    rw (p.1, p.2) (joins-no_memory _ _ t (length (picks_of order)) (merged_content c.args.bytes_columns.now order) refl)

pub join_behind-requires-clause-shapes : goal.join_behind-requires-clause-shapes
join_behind-requires-clause-shapes g c = ap (map shape_of) c.deref.ensures.value ∙ c.in_ok-column_indexes.ensures
