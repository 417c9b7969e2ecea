use Rattle.std.proofs.Common.{refl}
use Rattle.col_model.specs.Category as categories
use Rattle.col_model.specs.ColumnType as types
use Rattle.col_writer_columns.specs.Columns.{plain_entry}
use Rattle.col_writer_columns.specs.Values.{time_cell}
use Rattle.col_types.specs.declared.column_type.ColumnType.TheVariants as kinds
use Rattle.col_writer_file.proofs.CheckLemmas.{type-ok, plain-large}
use Rattle.col_writer_file.proofs.checks.check_times.Goals as goal

pub returns-clause-gives : goal.returns-clause-gives
returns-clause-gives c =
    type-ok categories.datetime (plain_entry types.datetime time_cell c.args.column.now) c.args.order.now kinds.DateTime refl refl
    (plain-large types.datetime time_cell (λ x. x) c.args.column.now c.args.order.now c.num_values-num_values.result
    (λ x. refl) c.documents_have_rows.ensures.rows c.num_values-num_values.ensures.value
    c.num_values-num_values.ensures.few)
