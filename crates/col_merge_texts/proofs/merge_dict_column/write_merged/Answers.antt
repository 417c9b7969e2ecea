use Rattle.std.proofs.Common.{◌∙◌, length, refl}
use Rattle.std.proofs.lemmas.Result.{err_from_is_err_and}
use Rattle.col_order.specs.Orders.{counts_of, picks_of}
use Rattle.col_order.specs.RowOrders.{order_of}
use Rattle.col_terms.specs.Building.{is_too_long, ordinals}
use Rattle.col_indexer.specs.Written.{index_of}
use Rattle.col_merge_values.specs.Merges.{merge_of}
use Rattle.col_merge_values.specs.TermColumns.{remapped_columns}
use Rattle.col_merge_texts.specs.Noting.{ords_by}
use Rattle.col_merge_texts.specs.Merged.{has_long_terms, merged_content}
use Rattle.col_merge_texts.specs.Taking.{IsTaken, IsNowhere}
use Rattle.col_merge_texts.proofs.OrdinalLemmas.{turned-are, noted-are, picks-low}
use Rattle.col_merge_texts.proofs.ContentLemmas.{long-is}
use Rattle.col_merge_texts.proofs.WritingLemmas.{texts-stopped, texts-no_memory, texts-written, ords-few, ords-counted, ords-behind}
use Rattle.col_merge_texts.proofs.merge_dict_column.write_merged.Goals as goal

pub returns-in_err-mapping : goal.returns-in_err-mapping
returns-in_err-mapping g c t has =
    let columns = c.args.bytes_columns.now in
    let order = order_of c.args.merge_row_order.now in
    let long = long-is columns order c.args.noted.now c.requires.told c.requires.noted c.terms_are_those_given.ensures in
    let p = err_from_is_err_and c.from_residual.result c.from_residual.ensures.1 in
    rw (p.1, p.2) (texts-stopped (is_too_long c.args.noted.now.terms) (has_long_terms columns order) _ _
    c.in_err-mapping.field-0.0 _ t (length (picks_of order)) (merged_content columns order) long
    c.in_err-mapping.ensures.bytes)

pub returns-in_err-ords : goal.returns-in_err-ords
returns-in_err-ords g c t has =
    let columns = c.args.bytes_columns.now in
    let order = order_of c.args.merge_row_order.now in
    let long = long-is columns order c.args.noted.now c.requires.told c.requires.noted c.terms_are_those_given.ensures in
    let p = err_from_is_err_and c.from_residual-in_err-ords.result c.from_residual-in_err-ords.ensures.1 in
    rw (p.1, p.2) (texts-no_memory (is_too_long c.args.noted.now.terms) (has_long_terms columns order) _ _ _ _ t
    (length (picks_of order)) (merged_content columns order) long c.in_ok-mapping.ensures.bytes)

pub write_ords-requires-clause-counted : goal.write_ords-requires-clause-counted
write_ords-requires-clause-counted g c =
    let columns = c.args.bytes_columns.now in
    let order = order_of c.args.merge_row_order.now in
    let n = c.args.noted.now in
    let m = merge_of (remapped_columns columns (ords_by (ordinals n.terms) n.ids)) order in
    let is = noted-are columns order (IsTaken columns order) IsNowhere n c.requires.segments c.requires.told c.requires.noted in
    ords-counted m c.deref.result.now (c.deref.ensures.value ∙ c.in_ok-ords.ensures) is c.orders_are_picks.ensures
    c.merged_values_are_rows.ensures (index_of c.args.column_index) c.requires.merged

pub write_ords-requires-clause-few : goal.write_ords-requires-clause-few
write_ords-requires-clause-few g c =
    let columns = c.args.bytes_columns.now in
    let order = order_of c.args.merge_row_order.now in
    let n = c.args.noted.now in
    let m = merge_of (remapped_columns columns (ords_by (ordinals n.terms) n.ids)) order in
    let is = noted-are columns order (IsTaken columns order) IsNowhere n c.requires.segments c.requires.told c.requires.noted in
    ords-few m c.deref.result.now (c.deref.ensures.value ∙ c.in_ok-ords.ensures) is c.orders_are_picks.ensures c.requires.few

pub returns : goal.returns
returns g c t has =
    let columns = c.args.bytes_columns.now in
    let order = order_of c.args.merge_row_order.now in
    let n = c.args.noted.now in
    let maps = ords_by (ordinals n.terms) n.ids in
    let m = merge_of (remapped_columns columns maps) order in
    let is = turned-are columns (counts_of order) (IsTaken columns order) IsNowhere n maps c.requires.segments
    c.requires.told c.requires.noted refl in
    let low = picks-low columns order c.requires.segments c.orders_are_picks.ensures in
    let behind = ords-behind m c.deref.result.now (c.deref.ensures.value ∙ c.in_ok-ords.ensures) is
    c.orders_are_picks.ensures c.merged_values_are_rows.ensures (index_of c.args.column_index) c.requires.merged
    _ _ c.write_ords.result t c.dictionary_len.result has c.write_ords.ensures in
    texts-written columns order n c.requires.told c.requires.noted c.terms_are_those_given.ensures c.dictionaries_are_read_back.ensures low
    maps _ _ _ _ c.write_ords.result t c.dictionary_len.result has refl c.dictionary_len.ensures c.in_ok-mapping.ensures.bytes behind
