use Rattle.std.proofs.Common.{◌∙◌, refl}
use Rattle.col_model.specs.ColumnType as types
use Rattle.col_writer_columns.specs.Values.{time_cell}
use Rattle.col_writer_file.proofs.PlainLemmas.{plain-written, stores-times, same-numbers}
use Rattle.col_writer_file.proofs.plain.serialize_times.Goals as goal

pub returns : goal.returns
returns g c =
    plain-written _ _ _ types.datetime time_cell (λ x. x) c.args.order.now c.docs.result.now
    c.values-codes.result.now c.args.column.now (λ x. refl) c.docs.ensures
    (c.values-codes.ensures.values ∙ same-numbers _)
    (c.serialize_number_column.ensures types.datetime refl (stores-times c.values-codes.result.now))
