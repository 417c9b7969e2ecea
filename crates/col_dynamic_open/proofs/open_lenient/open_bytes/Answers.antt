use Rattle.std.proofs.Common.{length, option_map}
use Rattle.std.proofs.lemmas.Result.{err_from_is_err_and}
use Rattle.std.specs.Int.{w32}
use Rattle.col_common.proofs.DecodingLemmas.{refuses-as}
use Rattle.col_common.specs.Reading.{parts_by_first}
use Rattle.col_dynamic.specs.Versions.{version_number}
use Rattle.col_model.specs.Column.{column}
use Rattle.col_model.specs.ColumnType as types
use Rattle.col_model.specs.Dictionary.{terms}
use Rattle.col_dynamic.proofs.OpenTextLemmas.{uncut}
use Rattle.col_dynamic_open.proofs.LenientLemmas.{without_terms, ordinals-refused, ordinals-opened}
use Rattle.col_dynamic_open.proofs.open_lenient.open_bytes.Goals as goal

pub returns-in_err-terms : goal.returns-in_err-terms
returns-in_err-terms c =
    let v = version_number c.args.format_version in
    let p = err_from_is_err_and c.from_residual.result c.from_residual.ensures.1 in
    rw (p.1, p.2) (refuses-as c.in_err-terms.field-0.0 (parts_by_first w32 c.args.bytes) (column c.args.bytes types.bytes v c.args.num_rows)
    (uncut c.args.bytes v c.args.num_rows)
    c.in_err-terms.ensures)

pub returns-in_err-num_terms : goal.returns-in_err-num_terms
returns-in_err-num_terms c =
    let v = version_number c.args.format_version in
    let parts = c.in_ok-terms in
    let after = c.from_residual-in_err-num_terms in
    let p = err_from_is_err_and after.result after.ensures.1 in
    rw (p.1, p.2) (refuses-as c.in_err-num_terms.field-0.0 (option_map length (terms parts.terms))
    (column c.args.bytes types.bytes v c.args.num_rows)
    (without_terms c.args.bytes v c.args.num_rows parts.terms parts.ords parts.ensures)
    c.in_err-num_terms.ensures)

pub returns-in_err-numbers : goal.returns-in_err-numbers
returns-in_err-numbers c =
    let v = version_number c.args.format_version in
    let parts = c.in_ok-terms in
    let after = c.from_residual-in_err-numbers in
    let p = err_from_is_err_and after.result after.ensures.1 in
    rw (p.1, p.2) (ordinals-refused c.args.bytes v c.args.num_rows parts.terms parts.ords parts.ensures
    c.in_ok-num_terms.num_terms c.in_ok-num_terms.ensures c.in_err-numbers.field-0.0 c.in_err-numbers.ensures)

pub returns : goal.returns
returns c =
    let parts = c.in_ok-terms in
    ordinals-opened c.args.bytes (version_number c.args.format_version) c.args.num_rows parts.terms parts.ords
    parts.ensures c.in_ok-num_terms.num_terms c.in_ok-num_terms.ensures
    c.in_ok-numbers.numbers c.numbers_below.ensures.counted c.in_ok-numbers.ensures c.numbers_below.result c.numbers_below.ensures.below
