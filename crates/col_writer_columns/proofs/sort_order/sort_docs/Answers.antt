use Rattle.std.proofs.Common.{◌∙◌, ap, sym}
use Rattle.std.specs.List.{zip}
use Rattle.col_writer_columns.specs.Sorting.{docs_by_number}
use Rattle.col_writer_columns.proofs.DocsLemmas.{past-zip, numbers-keys, few-firsts, order-refused, order-given}
use Rattle.col_writer_columns.proofs.sort_order.sort_docs.Goals as goal

pub returns-then-is_past : goal.returns-then-is_past
returns-then-is_past g c =
    let keys = g.K.SortKeys.keys c.args.keys.now in
    order-refused (λ v. v.items) (zip c.args.docs.now keys) c.args.num_docs c.args.reversed
    (past-zip c.args.num_docs c.args.docs.now keys c.requires ∙ sym c.is_past.ensures ∙ c.if-is_past.true)

pub docs_by_number-requires : goal.docs_by_number-requires
docs_by_number-requires g c =
    few-firsts c.args.num_docs (zip c.args.docs.now (g.K.SortKeys.keys c.args.keys.now)) c.in_ok-firsts.firsts.items
    c.deref.result.now c.in_ok-firsts.ensures c.deref.ensures.value c.ranges.num_docs.fits

pub returns : goal.returns
returns g c =
    let keys = g.K.SortKeys.keys c.args.keys.now in
    let below = past-zip c.args.num_docs c.args.docs.now keys c.requires ∙ sym c.is_past.ensures ∙ c.if-is_past.false in
    order-given (λ v. v.items) (zip c.args.docs.now keys) c.args.num_docs c.args.reversed c.in_ok-docs_by_number.field-0 below
    (c.in_ok-docs_by_number.ensures ∙ ap (docs_by_number c.args.reversed) c.deref.ensures.value
    ∙ numbers-keys c.args.reversed c.args.num_docs (zip c.args.docs.now keys) c.in_ok-firsts.firsts.items
    c.in_ok-firsts.ensures below)
