use Rattle.std.proofs.Common.{◌≡◌, length, Some, ap, ◌∙◌}
use Rattle.std.proofs.lemmas.List.{length-map}
use Rattle.std.proofs.lemmas.Result.{err_from_is_err_and}
use Rattle.std.specs.Int.{w64}
use Rattle.col_common.specs.Reading.{◌>>=◌, parts_by_first}
use Rattle.col_common.proofs.DecodingLemmas.{refuses-as}
use Rattle.col_compact.specs.Coded.{numbers_of, headed_list}
use Rattle.col_indexer.specs.Versions.{version_number}
use Rattle.col_model.specs.AddressList.{values128, coded_number}
use Rattle.col_model.specs.Column.{number_rows}
use Rattle.col_model.specs.ColumnType as types
use Rattle.col_column.specs.Opened.{counted_rows, indexed_by, codes_behind}
use Rattle.col_column.proofs.OpenValueLemmas.{column-keeps}
use Rattle.col_column.proofs.OpenSeenLemmas.{decodes-as, addresses-all, rows-unparted, rows-unread, rows-read}
use Rattle.col_column.proofs.open.open_column_u128_as_compact_u64.Goals as goal

pub returns-in_err-index-clause-ok : goal.returns-in_err-index-clause-ok
returns-in_err-index-clause-ok c =
    let v = version_number c.args.format_version in
    let p = err_from_is_err_and c.from_residual.result c.from_residual.ensures.1 in
    rw (p.1, p.2) (refuses-as c.in_err-index.field-0.0 (parts_by_first w64 c.args.bytes)
    (number_rows c.args.bytes types.ip v c.args.num_rows)
    (rows-unparted types.ip c.args.bytes v c.args.num_rows)
    c.in_err-index.ensures)

pub returns-in_err-values-clause-ok : goal.returns-in_err-values-clause-ok
returns-in_err-values-clause-ok c =
    let v = version_number c.args.format_version in
    let p = err_from_is_err_and c.from_residual-in_err-values.result c.from_residual-in_err-values.ensures.1 in
    rw (p.1, p.2) (refuses-as c.in_err-values.field-0.0 (values128 c.in_ok-index.values)
    (number_rows c.args.bytes types.ip v c.args.num_rows)
    (rows-unread types.ip values128 addresses-all c.args.bytes v c.args.num_rows c.in_ok-index.index
    c.in_ok-index.values c.in_ok-index.ensures)
    c.in_err-values.ensures.numbers)

pub returns-clause-ok : goal.returns-clause-ok
returns-clause-ok c =
    let v = version_number c.args.format_version in
    let values = c.in_ok-values.values in
    decodes-as (λ column. counted_rows column.shape (numbers_of column.values)) c.column_of_values.result
    (indexed_by c.in_ok-index.index v c.args.num_rows (length values.codes) values) (number_rows c.args.bytes types.ip v c.args.num_rows)
    (rows-read numbers_of values (length values.codes) (length-map values.codes (coded_number values.ranges)) types.ip
    values128 addresses-all
    c.args.bytes v c.args.num_rows c.in_ok-index.index c.in_ok-index.values c.in_ok-index.ensures c.in_ok-values.ensures.numbers)
    c.column_of_values.ensures

pub returns-clause-codes : goal.returns-clause-codes
returns-clause-codes c =
    let values = c.in_ok-values.values in
    column-keeps (λ d. codes_behind c.args.bytes ≡ Some d) c.column_of_values.result c.in_ok-index.index
    (version_number c.args.format_version) c.args.num_rows (length values.codes) values
    c.column_of_values.ensures
    (ap (λ o. o >>= λ p. headed_list p.1) c.in_ok-index.ensures ∙ c.in_ok-values.ensures.codes)
