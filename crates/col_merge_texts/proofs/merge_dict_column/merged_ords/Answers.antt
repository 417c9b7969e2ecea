use Rattle.std.proofs.Common.{◌≡◌, ◌∙◌, ap, sym, subst, length, map, slice_index}
use Rattle.std.specs.Prelude.{IfOk}
use Rattle.std.specs.List.{AllByRecursion}
use Rattle.col_common.specs.Ascending.{AreBelow}
use Rattle.col_order.specs.Orders.{counts_of}
use Rattle.col_order.specs.RowOrders.{order_of}
use Rattle.col_terms.specs.Building.{ordinals}
use Rattle.col_merge_texts.specs.Items.{lists_of}
use Rattle.col_merge_values.specs.Merges.{merge_of, values_of}
use Rattle.col_merge_values.specs.TermColumns.{remapped_columns}
use Rattle.col_merge_texts.specs.Noting.{IsIdBelow, ords_by}
use Rattle.col_merge_texts.specs.Taking.{IsTaken, IsNowhere}
use Rattle.col_merge_texts.proofs.ContentLemmas.{ids-long}
use Rattle.col_merge_texts.proofs.IdOrdinalLemmas.{order-ords, order-low}
use Rattle.col_merge_texts.proofs.OrdinalLemmas.{ids-below, turned-are, picks-low}
use Rattle.col_merge_texts.proofs.merge_dict_column.merged_ords.Goals as goal

pub ords_by_column-requires : goal.ords_by_column-requires
ords_by_column-requires c =
    let order = order_of c.args.merge_row_order.now in
    subst (λ k. AllByRecursion (AllByRecursion (IsIdBelow k)) c.args.noted.now.ids)
    (sym (ap length c.requires.mapping ∙ c.terms_are_those_given.ensures.count c.args.noted.now.terms))
    (ids-below c.args.bytes_columns.now (IsTaken c.args.bytes_columns.now order) IsNowhere c.args.noted.now c.requires.noted)

pub new-requires : goal.new-requires
new-requires c =
    let columns = c.args.bytes_columns.now in
    let order = order_of c.args.merge_row_order.now in
    turned-are columns (counts_of order) (IsTaken columns order) IsNowhere c.args.noted.now
    (lists_of c.deref.result.now) c.requires.segments c.requires.told c.requires.noted
    (ap lists_of c.deref.ensures.value ∙ c.in_ok-ords-in-Stack.ensures ∙ ap (λ m. ords_by m c.args.noted.now.ids) c.requires.mapping)

pub returns-in_ok-ords-in-Stack : goal.returns-in_ok-ords-in-Stack
returns-in_ok-ords-in-Stack c =
    let columns = c.args.bytes_columns.now in
    let order = order_of c.args.merge_row_order.now in
    let maps = ap lists_of c.deref.ensures.value ∙ c.in_ok-ords-in-Stack.ensures
    ∙ ap (λ m. ords_by m c.args.noted.now.ids) c.requires.mapping in
    subst (λ m. IfOk c.in_memory.result (λ v. v.items ≡ values_of m))
    (c.new.ensures ∙ ap (λ ms. merge_of (remapped_columns columns ms) order) maps) c.in_memory.ensures

pub picked_ords-requires : goal.picked_ords-requires
picked_ords-requires c =
    let columns = c.args.bytes_columns.now in
    let order = order_of c.args.merge_row_order.now in
    subst (λ k. AreBelow k c.args.ids.now)
    (sym (ap length c.requires.mapping ∙ c.terms_are_those_given.ensures.count c.args.noted.now.terms))
    (order-low columns order (IsTaken columns order) IsNowhere c.args.noted.now c.args.ids.now c.requires.noted c.requires.ids)

pub returns-in-Shuffled : goal.returns-in-Shuffled
returns-in-Shuffled c =
    let columns = c.args.bytes_columns.now in
    let order = order_of c.args.merge_row_order.now in
    let n = c.args.noted.now in
    let low = picks-low columns order c.requires.segments c.orders_are_picks.ensures in
    let long = ids-long columns order n c.requires.told c.requires.noted c.terms_are_those_given.ensures in
    let same = order-ords columns order _ _ n (ordinals n.terms) c.args.ids.now (ap order_of c.in-Shuffled.is) long low c.requires.ids in
    subst (λ xs. IfOk c.picked_ords.result (λ v. v.items ≡ xs))
    (ap (λ m. map (slice_index m) c.args.ids.now) c.requires.mapping ∙ sym same) c.picked_ords.ensures
