use Rattle.std.proofs.Common.{◌∙◌, ap, sym, refl, arith, length, map, ◌+◌}
use Rattle.std.proofs.lemmas.List.{take_all}
use Rattle.std.proofs.lemmas.Result.{err_from_is_err_and}
use Rattle.col_common.specs.Ascending.{are_below}
use Rattle.col_model.specs.Refusal.{each_ok}
use Rattle.col_types.specs.Kinds.{kind_of}
use Rattle.col_writer_file.specs.EntryColumns.{category_in}
use Rattle.col_writer_file.specs.OnRows.{recorded_docs}
use Rattle.col_writer_file.specs.Tables.{named_entry, slot_type_of}
use Rattle.col_writer_file.proofs.EachLemmas.{all-at}
use Rattle.col_writer_file.proofs.TableLemmas.{checked-none, checked-more, checked-refused}
use Rattle.col_writer_file.proofs.table.check_columns.Goals as goal

pub loop-column-init : goal.loop-column-init
loop-column-init c = checked-none c.args.order.now c.args.columns.now c.new-types.result.items c.new-types.ensures.items

pub check-requires : goal.check-requires
check-requires c =
    ap (λ x. are_below (length c.args.order.now) (recorded_docs (named_entry x).1)) c.column-item.is
    ∙ all-at (λ x. are_below (length c.args.order.now) (recorded_docs (named_entry x).1)) c.args.columns.now
    c.loop-column.column-index c.column-item.result c.requires c.loop-column-test.true

pub returns-in_err-check-clause-types : goal.returns-in_err-check-clause-types
returns-in_err-check-clause-types c =
    let p = err_from_is_err_and c.from_residual.result c.from_residual.ensures.1 in
    rw (p.1, p.2) (checked-refused (λ v. map kind_of v.items) c.args.order.now c.args.columns.now
    c.loop-column.column-index c.column-item.result c.column-item.result c.loop-column.types.items _ _
    c.loop-column.invariant c.loop-column-test.true c.column-item.is c.in_err-check.ensures.gives refl)

pub loop-column-preserved : goal.loop-column-preserved
loop-column-preserved c =
    checked-more c.args.order.now c.args.columns.now c.loop-column.column-index (c.loop-column.column-index + 1)
    c.column-item.result c.column-item.result c.loop-column.types.items c.push.new.self.items
    c.in_ok-check.field-0 c.loop-column.invariant
    c.loop-column-test.true (omega arith) c.column-item.is c.in_ok-check.ensures.gives
    c.in_ok-check.ensures.category c.in_ok-push.ensures.items

pub returns-clause-types : goal.returns-clause-types
returns-clause-types c = record {
  ok =
      ap (λ ys. each_ok (slot_type_of c.args.order.now) (map named_entry ys))
      (sym (take_all c.loop-column.column-index c.args.columns.now (omega arith))) ∙ c.loop-column.invariant.typed;
  refused = tt;
}

pub returns-clause-categories : goal.returns-clause-categories
returns-clause-categories c =
    c.loop-column.invariant.categories
    ∙ ap (map (λ x. category_in x.column)) (take_all c.loop-column.column-index c.args.columns.now (omega arith))
