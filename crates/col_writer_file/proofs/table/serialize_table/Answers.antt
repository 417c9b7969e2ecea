use Rattle.std.proofs.Common.{◌∙◌, ap, sym, refl, Ok, Err, map}
use Rattle.std.proofs.lemmas.Result.{err_from_is_err_and}
use Rattle.col_model.specs.Refusal.{each_ok}
use Rattle.col_model.specs.Written.{is_past_docs}
use Rattle.col_types.specs.Kinds.{kind_of}
use Rattle.col_writer_file.specs.Tables.{named_entry, slot_type_of}
use Rattle.col_writer_file.proofs.OutcomeLemmas.{any-named_entry, table-no_memory, past-refused, order-refused, placed-here, columns-below, columns-named, columns-refused, columns-sorted, columns-written}
use Rattle.col_writer_file.proofs.table.serialize_table.Goals as goal

pub returns-then-have_docs_past : goal.returns-then-have_docs_past
returns-then-have_docs_past g c =
    past-refused _ (map named_entry c.args.columns.now) c.args.num_docs _ (
    sym (any-named_entry (is_past_docs c.args.num_docs) c.args.columns.now) ∙ sym c.have_docs_past.ensures
    ∙ c.if-have_docs_past.true)

pub returns-in_err-order : goal.returns-in_err-order
returns-in_err-order g c =
    let p = err_from_is_err_and c.from_residual.result c.from_residual.ensures.1 in
    rw (p.1, p.2) (order-refused _ (map named_entry c.args.columns.now) c.args.num_docs _ _
    (sym (any-named_entry (is_past_docs c.args.num_docs) c.args.columns.now) ∙ sym c.have_docs_past.ensures
    ∙ c.if-have_docs_past.false)
    c.in_err-order.ensures.err (λ q. c.in_err-order.ensures.bad_order (ap Err q)))

pub returns-in_err-named : goal.returns-in_err-named
returns-in_err-named g c =
    let p = err_from_is_err_and c.from_residual-in_err-named.result c.from_residual-in_err-named.ensures.1 in
    rw (p.1, p.2) (table-no_memory _ _ _ refl)

pub check_columns-requires : goal.check_columns-requires
check_columns-requires g c =
    let h = placed-here c.args.columns.now c.args.num_docs _ _ _ c.have_docs_past.ensures c.if-have_docs_past.false
    c.in_ok-order.ensures.ok in
    columns-below (map named_entry c.args.columns.now) c.args.num_docs _ _ _ h
    (ap (map named_entry) c.deref.ensures.value ∙ c.in_ok-named.ensures)

pub returns-in_err-types : goal.returns-in_err-types
returns-in_err-types g c =
    let h = placed-here c.args.columns.now c.args.num_docs _ _ _ c.have_docs_past.ensures c.if-have_docs_past.false
    c.in_ok-order.ensures.ok in
    let p = err_from_is_err_and c.from_residual-in_err-types.result c.from_residual-in_err-types.ensures.1 in
    rw (p.1, p.2) (columns-refused _ (map named_entry c.args.columns.now) _ c.args.num_docs _ _ _ h
    (ap (map named_entry) c.deref.ensures.value ∙ c.in_ok-named.ensures) c.in_err-types.ensures.types.refused)

pub serialize_file-requires-clause-below : goal.serialize_file-requires-clause-below
serialize_file-requires-clause-below g c =
    let h = placed-here c.args.columns.now c.args.num_docs _ _ _ c.have_docs_past.ensures c.if-have_docs_past.false
    c.in_ok-order.ensures.ok in
    columns-below (map named_entry c.args.columns.now) c.args.num_docs _ _ _ h
    (ap (map named_entry) c.deref-2.ensures.value ∙ c.in_ok-named.ensures)

pub serialize_file-requires-clause-named : goal.serialize_file-requires-clause-named
serialize_file-requires-clause-named g c =
    columns-named (map named_entry c.args.columns.now) _
    (ap (map named_entry) c.deref-2.ensures.value ∙ c.in_ok-named.ensures)

pub serialize_file-requires-clause-sorted : goal.serialize_file-requires-clause-sorted
serialize_file-requires-clause-sorted g c =
    columns-sorted (map named_entry c.args.columns.now) _
    (ap (map named_entry) c.deref-2.ensures.value ∙ c.in_ok-named.ensures) c.requires

pub returns : goal.returns
returns g c =
    let h = placed-here c.args.columns.now c.args.num_docs _ _ _ c.have_docs_past.ensures c.if-have_docs_past.false
    c.in_ok-order.ensures.ok in
    columns-written _ _ c.serialize_file.result (map named_entry c.args.columns.now) _ c.args.num_docs _ _ _ h
    (ap (map named_entry) c.deref-2.ensures.value ∙ c.in_ok-named.ensures)
    (ap (λ xs. each_ok (slot_type_of c.in_ok-order.order) (map named_entry xs))
    (c.deref-2.ensures.value ∙ sym c.deref.ensures.value) ∙ c.in_ok-types.ensures.types.ok
    ∙ ap (λ ts. Ok (map kind_of ts)) (sym c.deref-3.ensures.value)) c.serialize_file.ensures
