use Rattle.std.proofs.Common.{◌∙◌, ap, refl, map}
use Rattle.col_model.specs.ColumnType as types
use Rattle.col_types.specs.Cells.{bool_cell}
use Rattle.col_values.specs.Codes.{bool_code}
use Rattle.col_writer_file.proofs.PlainLemmas.{plain-written, stores-bools}
use Rattle.col_writer_file.proofs.plain.serialize_bools.Goals as goal

pub returns : goal.returns
returns g c =
    let numbers = c.deref.ensures.value ∙ c.in_ok-numbers.ensures in
    plain-written _ _ _ types.bool bool_cell bool_code c.args.order.now c.docs.result.now c.deref.result.now
    c.args.column.now (λ b. refl) c.docs.ensures
    (numbers ∙ ap (map bool_code) c.values.ensures.values)
    (c.serialize_number_column.ensures types.bool refl (stores-bools c.values.result.now c.deref.result.now numbers))
