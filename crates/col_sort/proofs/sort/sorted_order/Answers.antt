use Rattle.std.proofs.Common.{◌∙◌, ◌<◌, ◌^◌, sym, subst, sum}
use Rattle.std.proofs.lemmas.Result.{err_from_is_err_and}
use Rattle.col_model.specs.Category.{slot_of}
use Rattle.col_types.specs.Kinds.{kind_of}
use Rattle.col_merge_plan.specs.Slots.{counts_read}
use Rattle.col_merge.specs.Opened.{AllOpenedAs, RefusesColumns}
use Rattle.col_merge.specs.Readings.{slot_reads}
use Rattle.col_merge.proofs.ReadingLemmas.{all_read-none}
use Rattle.col_merge.proofs.OpenTurnLemmas.{opened-rows}
use Rattle.col_sort.proofs.SortLemmas.{err-sorts, many-refused, open-refused, ordered-sorts, not-refused}
use Rattle.col_sort.proofs.sort.sorted_order.Goals as goal

pub returns-in_err-check_rows-clause-answer : goal.returns-in_err-check_rows-clause-answer
returns-in_err-check_rows-clause-answer g c =
    let p = err_from_is_err_and c.from_residual.result c.from_residual.ensures.1 in
    let rs = c.args.columnar_readers.now in
    let slot = slot_of c.args.name.now (kind_of c.args.column_type) in
    err-sorts rs rs c.from_residual.result p.0 c.in_err-check_rows.field-0.0 slot c.args.reversed p.1 p.2
    (many-refused rs slot c.args.reversed c.files_are_read.ensures c.in_err-check_rows.field-0.0
    c.in_err-check_rows.ensures.too_large c.in_err-check_rows.ensures.err)

pub returns-in_err-check_rows-clause-kept : goal.returns-in_err-check_rows-clause-kept
returns-in_err-check_rows-clause-kept g c =
    all_read-none (slot_reads (slot_of c.args.name.now (kind_of c.args.column_type))) c.args.columnar_readers.now

pub returns-in_err-counts-clause-kept : goal.returns-in_err-counts-clause-kept
returns-in_err-counts-clause-kept g c =
    all_read-none (slot_reads (slot_of c.args.name.now (kind_of c.args.column_type))) c.args.columnar_readers.now

pub returns-in_err-slot-clause-kept : goal.returns-in_err-slot-clause-kept
returns-in_err-slot-clause-kept g c =
    all_read-none (slot_reads (slot_of c.args.name.now (kind_of c.args.column_type))) c.args.columnar_readers.now

pub returns-in_err-columns-clause-answer : goal.returns-in_err-columns-clause-answer
returns-in_err-columns-clause-answer g c =
    let p = err_from_is_err_and c.from_residual-in_err-columns.result c.from_residual-in_err-columns.ensures.1 in
    let rs = c.args.columnar_readers.now in
    let news = c.open_columns.new.columnar_readers in
    let slot = slot_of c.args.name.now (kind_of c.args.column_type) in
    let e = c.in_err-columns.field-0.0 in
    let few = not-refused (sum (counts_read rs)) c.in_ok-check_rows.field-0 c.in_ok-check_rows.ensures.too_large in
    err-sorts rs news c.from_residual-in_err-columns.result p.0 e slot c.args.reversed p.1 p.2
    (open-refused rs slot c.args.reversed c.files_are_read.ensures news e few
    (subst (λ slot. RefusesColumns slot rs news e) c.in_ok-slot.ensures c.in_err-columns.ensures.err))

pub order_of_columns-requires-clause-rows : goal.order_of_columns-requires-clause-rows
order_of_columns-requires-clause-rows g c =
    let rs = c.args.columnar_readers.now in
    let counts = sym (c.deref.ensures.value ∙ c.in_ok-counts.ensures) in
    opened-rows c.in_ok-slot.slot rs c.deref_mut.result.now c.deref.result.now counts
    (subst (AllOpenedAs c.in_ok-slot.slot rs) (sym c.deref_mut.ensures.value) c.in_ok-columns.ensures.ok)

pub returns-clause-answer : goal.returns-clause-answer
returns-clause-answer g c =
    let rs = c.args.columnar_readers.now in
    let slot = slot_of c.args.name.now (kind_of c.args.column_type) in
    let counts = c.deref.ensures.value ∙ c.in_ok-counts.ensures in
    let few = not-refused (sum (counts_read rs)) c.in_ok-check_rows.field-0 c.in_ok-check_rows.ensures.too_large in
    let opened = subst (AllOpenedAs c.in_ok-slot.slot rs) (sym c.deref_mut.ensures.value) c.in_ok-columns.ensures.ok in
    ordered-sorts rs c.open_columns.new.columnar_readers c.order_of_columns.result slot c.args.reversed
    c.deref_mut.result.now c.deref.result.now c.files_are_read.ensures counts
    (subst (λ ns. sum ns < 2 ^ 32) (sym counts) few)
    (subst (λ slot. AllOpenedAs slot rs c.deref_mut.result.now) c.in_ok-slot.ensures opened)
    c.order_of_columns.ensures.ok c.order_of_columns.ensures.err
