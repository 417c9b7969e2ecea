use Rattle.std.proofs.Common.{of_z, refl, to_z, w64}
use Rattle.std.proofs.lemmas.Result.{err_from_is_err_and}
use Rattle.col_model.specs.ColumnType as types
use Rattle.col_model.specs.Table.{number}
use Rattle.col_csv_import.proofs.ValueLemmas.{signed-spelled, value-refused, value-taken}
use Rattle.col_csv_import.proofs.values.take_signed.Goals as goal

pub returns-in_err-record_numerical_value : goal.returns-in_err-record_numerical_value
returns-in_err-record_numerical_value c =
    let p = err_from_is_err_and c.from_residual.result c.from_residual.ensures.1 in
    rw p.1 (value-refused types.i64 c.args.row c.args.column.now c.record_numerical_value.new.self c.args.text.now
    (number (to_z w64 (of_z w64 c.in-Some.number))) c.in_err-record_numerical_value.field-0.0 p.0 p.2 c.requires
    c.in_err-record_numerical_value.ensures)

pub returns : goal.returns
returns c =
    value-taken types.i64 c.args.row c.args.column.now c.record_numerical_value.new.self c.args.text.now
    (number (to_z w64 (of_z w64 c.in-Some.number))) c.in_ok-record_numerical_value.field-0 c.requires
    (signed-spelled c.args.text.now c.in-Some.number _ c.in-Some.ensures.i64 refl) c.in_ok-record_numerical_value.ensures
