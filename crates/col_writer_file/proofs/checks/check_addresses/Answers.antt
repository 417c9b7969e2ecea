use Rattle.std.proofs.Common.{refl, sym, ◌∙◌}
use Rattle.col_model.specs.Category as categories
use Rattle.col_model.specs.ColumnType as types
use Rattle.col_writer_columns.specs.Columns.{plain_entry}
use Rattle.col_types.specs.Cells.{unsigned_cell}
use Rattle.col_types.specs.declared.column_type.ColumnType.TheVariants as kinds
use Rattle.col_writer_file.proofs.CheckLemmas.{type-ok, type-large, plain-large}
use Rattle.col_writer_file.proofs.checks.check_addresses.Goals as goal

pub returns-then-branch-clause-gives : goal.returns-then-branch-clause-gives
returns-then-branch-clause-gives c =
    type-large categories.ip (plain_entry types.ip unsigned_cell c.args.column.now) c.args.order.now types.ip refl refl
    (plain-large types.ip unsigned_cell (λ x. x) c.args.column.now c.args.order.now c.num_values-num_values.result
    (λ x. refl) c.documents_have_rows.ensures.rows c.num_values-num_values.ensures.value
    c.num_values-num_values.ensures.few
    ∙ sym c.in_ok-have_too_many_codes.ensures ∙ c.if-branch.true)

pub returns-clause-gives : goal.returns-clause-gives
returns-clause-gives c =
    type-ok categories.ip (plain_entry types.ip unsigned_cell c.args.column.now) c.args.order.now kinds.IpAddr refl refl
    (plain-large types.ip unsigned_cell (λ x. x) c.args.column.now c.args.order.now c.num_values-num_values.result
    (λ x. refl) c.documents_have_rows.ensures.rows c.num_values-num_values.ensures.value
    c.num_values-num_values.ensures.few
    ∙ sym c.in_ok-have_too_many_codes.ensures ∙ c.if-branch.false)
