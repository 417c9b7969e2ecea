use Rattle.std.proofs.Common.{refl}
use Rattle.col_model.specs.Category as categories
use Rattle.col_model.specs.ColumnType as types
use Rattle.col_writer_columns.specs.Columns.{plain_entry}
use Rattle.col_types.specs.Cells.{bool_cell}
use Rattle.col_values.specs.Codes.{bool_code}
use Rattle.col_types.specs.declared.column_type.ColumnType.TheVariants as kinds
use Rattle.col_writer_file.proofs.CheckLemmas.{type-ok, plain-large}
use Rattle.col_writer_file.proofs.checks.check_bools.Goals as goal

pub returns-clause-gives : goal.returns-clause-gives
returns-clause-gives c =
    type-ok categories.bool (plain_entry types.bool bool_cell c.args.column.now) c.args.order.now kinds.Bool refl refl
    (plain-large types.bool bool_cell bool_code c.args.column.now c.args.order.now c.num_values-num_values.result
    (λ b. refl) c.documents_have_rows.ensures.rows c.num_values-num_values.ensures.value
    c.num_values-num_values.ensures.few)
