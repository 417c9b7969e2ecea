use Rattle.std.proofs.Common.{subst}
use Rattle.std.proofs.lemmas.Result.{err_from_is_err_and}
use Rattle.json.specs.Value.{value_view}
use Rattle.col_documents.specs.Documents.{item_fields}
use Rattle.col_documents.specs.Read.{IsRefusedAs}
use Rattle.col_documents.proofs.DocumentLemmas.{item_part, IsPut, items_read}
use Rattle.col_documents.proofs.JoinedLemmas.{none_put, more_put, all_put, part_refused}
use Rattle.col_documents.proofs.document.push_items.Goals as goal

pub loop-item-init : goal.loop-item-init
loop-item-init c = none_put (item_part c.args.form c.args.path.now) c.deref-item-items.result.now c.args.fields.now.items

pub returns-in_err-push_item : goal.returns-in_err-push_item
returns-in_err-push_item c =
    let p = err_from_is_err_and c.from_residual-in_err-push_item.result c.from_residual-in_err-push_item.ensures.1 in
    let e = c.in_err-push_item.field-0.0 in
    let json = value_view c.item-item.result in
    let refused : IsRefusedAs e (item_fields c.args.form c.args.path.now json) =
    subst (λ path. IsRefusedAs e (item_fields c.args.form path json)) c.in_ok-path.ensures.ok c.in_err-push_item.ensures in
    let all = part_refused (item_part c.args.form c.args.path.now) c.deref-item-items.result.now c.loop-item.item-index
    c.item-item.result c.args.fields.now.items c.loop-item.fields.items e c.loop-item-test.true c.item-item.is c.loop-item.invariant
    refused in
    rw (p.1, p.2) (subst (IsRefusedAs e) (items_read c.args.form c.args.path.now c.deref-item-items.result.now c.args.items.now.items
    c.deref-item-items.ensures.value) all)

pub loop-item-preserved : goal.loop-item-preserved
loop-item-preserved c =
    let json = value_view c.item-item.result in
    let grown : IsPut c.loop-item.fields.items c.push_item.new.fields.items (item_fields c.args.form c.args.path.now json) =
    subst (λ path. IsPut c.loop-item.fields.items c.push_item.new.fields.items (item_fields c.args.form path json))
    c.in_ok-path.ensures.ok c.in_ok-push_item.ensures in
    more_put (item_part c.args.form c.args.path.now) c.deref-item-items.result.now c.loop-item.item-index c.item-item.result
    c.args.fields.now.items c.loop-item.fields.items c.push_item.new.fields.items c.loop-item-test.true c.item-item.is
    c.loop-item.invariant grown

pub returns : goal.returns
returns c =
    subst (IsPut c.args.fields.now.items c.loop-item.fields.items)
    (items_read c.args.form c.args.path.now c.deref-item-items.result.now c.args.items.now.items c.deref-item-items.ensures.value)
    (all_put (item_part c.args.form c.args.path.now) c.deref-item-items.result.now c.loop-item.item-index c.args.fields.now.items
    c.loop-item.fields.items c.loop-item-test.false c.loop-item.invariant)
