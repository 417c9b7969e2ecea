use Rattle.std.proofs.Common.{length}
use Rattle.std.proofs.lemmas.Result.{err_from_is_err_and}
use Rattle.col_order.specs.Orders.{picks_of}
use Rattle.col_order.specs.RowOrders.{order_of}
use Rattle.col_merge_texts.specs.Merged.{has_long_terms, merged_content}
use Rattle.col_merge_texts.proofs.WritingLemmas.{texts-refused}
use Rattle.col_merge_texts.proofs.merge_dict_column.merge_bytes_or_str_column.Goals as goal

pub returns-in_err-noted : goal.returns-in_err-noted
returns-in_err-noted g c t has =
    let columns = c.args.bytes_columns.now in
    let order = order_of c.args.merge_row_order.now in
    let p = err_from_is_err_and c.from_residual.result c.from_residual.ensures.1 in
    rw (p.1, p.2) (texts-refused (has_long_terms columns order) _ c.in_err-noted.field-0.0 t
    (length (picks_of order)) (merged_content columns order) c.in_err-noted.ensures.err)
