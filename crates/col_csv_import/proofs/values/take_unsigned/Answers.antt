use Rattle.std.proofs.Common.{sym}
use Rattle.std.proofs.lemmas.Result.{err_from_is_err_and}
use Rattle.col_model.specs.ColumnType as types
use Rattle.col_types.specs.Cells.{unsigned_cell}
use Rattle.col_csv_import.proofs.ValueLemmas.{value-refused, value-taken}
use Rattle.col_csv_import.proofs.values.take_unsigned.Goals as goal

pub returns-in_err-record_numerical_value : goal.returns-in_err-record_numerical_value
returns-in_err-record_numerical_value c =
    let p = err_from_is_err_and c.from_residual.result c.from_residual.ensures.1 in
    rw p.1 (value-refused types.u64 c.args.row c.args.column.now c.record_numerical_value.new.self c.args.text.now
    (unsigned_cell c.in-Some.number) c.in_err-record_numerical_value.field-0.0 p.0 p.2 c.requires
    c.in_err-record_numerical_value.ensures)

pub returns : goal.returns
returns c =
    value-taken types.u64 c.args.row c.args.column.now c.record_numerical_value.new.self c.args.text.now
    (unsigned_cell c.in-Some.number) c.in_ok-record_numerical_value.field-0 c.requires (sym c.in-Some.ensures)
    c.in_ok-record_numerical_value.ensures
