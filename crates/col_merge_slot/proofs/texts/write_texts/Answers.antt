use Rattle.std.proofs.Common.{map, ap, ◌∙◌, subst}
use Rattle.std.specs.List.{AllByRecursion}
use Rattle.col_order.specs.RowOrders.{order_of}
use Rattle.col_column.specs.Columns.{num_docs_in}
use Rattle.col_numbers.specs.NumValues.{num_values_of}
use Rattle.col_merge_slot.specs.Segments.{where_set}
use Rattle.col_merge_slot.specs.Texts.{text_type, IsCountedText}
use Rattle.col_merge_slot.proofs.TakenLemmas.{takes-still, takes-joined}
use Rattle.col_merge_slot.proofs.TextLemmas.{text-terms, texts-written}
use Rattle.col_merge_slot.proofs.texts.write_texts.Goals as goal

pub join_texts-requires : goal.join_texts-requires
join_texts-requires g c = ap (map (λ x. num_docs_in num_values_of x.ords)) c.deref-2.ensures.value ∙ c.in_ok-texts.ensures.ok.fit

pub returns-clause-written : goal.returns-clause-written
returns-clause-written g c =
    texts-written (text_type c.args.is_text) (order_of c.args.merge_row_order.now)
    (where_set c.args.columns.now c.args.kept.now) c.in_ok-texts.texts.items c.deref-2.result.now _ _
    c.join_texts.result
    c.deref-2.ensures.value c.orders_are_picks.ensures
    (subst (AllByRecursion IsCountedText) c.deref.ensures.value c.texts_are_counted.ensures)
    c.in_ok-texts.ensures.ok (c.join_texts.ensures (text_type c.args.is_text) (text-terms c.args.is_text))

pub returns-in_err-texts-clause-taken : goal.returns-in_err-texts-clause-taken
returns-in_err-texts-clause-taken g c =
    takes-still _ c.args.columns.now c.args.kept.now _ _ _ c.from_residual.ensures.1 c.in_err-texts.ensures.taken

pub returns-clause-taken : goal.returns-clause-taken
returns-clause-taken g c =
    takes-joined _ c.args.columns.now c.args.kept.now _ _ _ _ _ _ _ c.in_ok-texts.ensures.taken
    (c.join_texts.ensures (text_type c.args.is_text) (text-terms c.args.is_text))
