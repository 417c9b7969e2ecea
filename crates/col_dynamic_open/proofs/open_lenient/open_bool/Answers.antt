use Rattle.std.proofs.lemmas.Result.{err_from_is_err_and}
use Rattle.col_dynamic.specs.Versions.{version_number}
use Rattle.col_dynamic_open.proofs.LenientLemmas.{flags-refused, flags-opened}
use Rattle.col_dynamic_open.proofs.open_lenient.open_bool.Goals as goal

pub returns-in_err-numbers : goal.returns-in_err-numbers
returns-in_err-numbers c =
    let p = err_from_is_err_and c.from_residual.result c.from_residual.ensures.1 in
    rw (p.1, p.2) (flags-refused c.args.bytes (version_number c.args.format_version) c.args.num_rows
    c.in_err-numbers.field-0.0 c.in_err-numbers.ensures)

pub returns : goal.returns
returns c =
    flags-opened c.args.bytes (version_number c.args.format_version) c.args.num_rows c.in_ok-numbers.numbers
    c.numbers_below.ensures.counted c.in_ok-numbers.ensures c.numbers_below.result c.numbers_below.ensures.below
