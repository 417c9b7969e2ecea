use Rattle.std.proofs.Common.{◌∙◌, refl, sym}
use Rattle.col_model.specs.Category as categories
use Rattle.col_model.specs.ColumnType as types
use Rattle.col_writer_columns.specs.Columns.{text_entry}
use Rattle.col_writer_file.proofs.CheckLemmas.{type-ok, type-large, texts-large}
use Rattle.col_types.specs.declared.column_type.ColumnType.TheVariants as kinds
use Rattle.col_writer_file.proofs.checks.check_bytes.Goals as goal

pub returns-then-have_too_long_terms-clause-gives : goal.returns-then-have_too_long_terms-clause-gives
returns-then-have_too_long_terms-clause-gives c =
    type-large categories.bytes (text_entry types.bytes c.args.column.now) c.args.order.now types.bytes refl refl
    (texts-large types.bytes c.args.column.now c.args.order.now c.num_values-num_values.result (λ e. cc)
    c.documents_have_rows.ensures.rows c.num_values-num_values.ensures.value c.num_values-num_values.ensures.few
    ∙ sym c.have_too_long_terms.ensures ∙ c.if-have_too_long_terms.true)

pub returns-clause-gives : goal.returns-clause-gives
returns-clause-gives c =
    type-ok categories.bytes (text_entry types.bytes c.args.column.now) c.args.order.now kinds.Bytes refl refl
    (texts-large types.bytes c.args.column.now c.args.order.now c.num_values-num_values.result (λ e. cc)
    c.documents_have_rows.ensures.rows c.num_values-num_values.ensures.value c.num_values-num_values.ensures.few
    ∙ sym c.have_too_long_terms.ensures ∙ c.if-have_too_long_terms.false)
