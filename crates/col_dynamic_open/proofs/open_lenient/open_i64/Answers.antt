use Rattle.std.proofs.lemmas.Result.{err_from_is_err_and}
use Rattle.col_dynamic.specs.Versions.{version_number}
use Rattle.col_model.specs.ColumnType as types
use Rattle.col_dynamic_open.proofs.LenientLemmas.{plain-i64, plain-opened, plain-refused}
use Rattle.col_dynamic_open.proofs.open_lenient.open_i64.Goals as goal

pub returns-in_err-numbers : goal.returns-in_err-numbers
returns-in_err-numbers c =
    let p = err_from_is_err_and c.from_residual.result c.from_residual.ensures.1 in
    rw (p.1, p.2) (plain-refused types.i64 plain-i64 c.args.bytes (version_number c.args.format_version)
    c.args.num_rows c.in_err-numbers.field-0.0 c.in_err-numbers.ensures)

pub returns : goal.returns
returns c =
    rw c.of_numbers.ensures (plain-opened types.i64 plain-i64 c.args.bytes (version_number c.args.format_version)
    c.args.num_rows c.in_ok-numbers.numbers c.in_ok-numbers.ensures)
