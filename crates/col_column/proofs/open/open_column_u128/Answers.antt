use Rattle.std.proofs.Common.{[], true, length, map, option_map, sym, ap, ◌∙◌}
use Rattle.std.proofs.lemmas.Result.{err_from_is_err_and}
use Rattle.std.specs.Int.{w64}
use Rattle.col_common.specs.Reading.{parts_by_first}
use Rattle.col_common.proofs.DecodingLemmas.{refuses-as}
use Rattle.col_indexer.specs.Versions.{version_number}
use Rattle.col_model.specs.AddressList.{values128}
use Rattle.col_model.specs.Column.{column}
use Rattle.col_model.specs.ColumnType as types
use Rattle.col_types.specs.Cells.{unsigned_cell}
use Rattle.col_model.proofs.StoredLaws.{addresses_stored}
use Rattle.col_column.specs.Columns.{content_seen}
use Rattle.col_column.specs.IpValues.{ip_values_of, HasExactBounds}
use Rattle.col_column.specs.Opened.{indexed_by}
use Rattle.col_column.specs.declared.ip_values.IpValues.TheVariants.{Read}
use Rattle.col_column.proofs.OpenValueLemmas.{column-keeps, bounds-read}
use Rattle.col_column.proofs.OpenSeenLemmas.{decodes-as, images-all, column-unparted, column-unread, column-read}
use Rattle.col_column.proofs.open.open_column_u128.Goals as goal

pub returns-in_err-index-clause-ok : goal.returns-in_err-index-clause-ok
returns-in_err-index-clause-ok c =
    let v = version_number c.args.format_version in
    let p = err_from_is_err_and c.from_residual.result c.from_residual.ensures.1 in
    rw (p.1, p.2) (refuses-as c.in_err-index.field-0.0 (parts_by_first w64 c.args.bytes) (column c.args.bytes types.ip v c.args.num_rows)
    (column-unparted values128 types.ip unsigned_cell (λ n. n) (λ _. true) addresses_stored c.args.bytes v c.args.num_rows)
    c.in_err-index.ensures)

pub returns-in_err-open_u128_mapped-clause-ok : goal.returns-in_err-open_u128_mapped-clause-ok
returns-in_err-open_u128_mapped-clause-ok c =
    let v = version_number c.args.format_version in
    let after = c.from_residual-in_err-open_u128_mapped in
    let p = err_from_is_err_and after.result after.ensures.1 in
    rw (p.1, p.2) (refuses-as c.in_err-open_u128_mapped.field-0.0
    (option_map (map (λ n. n)) (values128 c.in_ok-index.values)) (column c.args.bytes types.ip v c.args.num_rows)
    (λ e. column-unread values128 types.ip unsigned_cell (λ n. n) (λ _. true) addresses_stored c.args.bytes v
    c.args.num_rows c.in_ok-index.index c.in_ok-index.values c.in_ok-index.ensures
    (ap (option_map (map (λ n. n))) (images-all (values128 c.in_ok-index.values)) ∙ e))
    c.in_err-open_u128_mapped.ensures.ok)

pub returns-clause-ok : goal.returns-clause-ok
returns-clause-ok c =
    let v = version_number c.args.format_version in
    let values = Read c.in_ok-open_u128_mapped.field-0 in
    decodes-as (λ column. content_seen [] unsigned_cell column.shape (ip_values_of column.values)) c.column_of_values.result
    (indexed_by c.in_ok-index.index v c.args.num_rows (length (ip_values_of values)) values)
    (column c.args.bytes types.ip v c.args.num_rows)
    (column-read ip_values_of values values128 types.ip unsigned_cell (λ n. n) (λ _. true) addresses_stored
    c.args.bytes v c.args.num_rows c.in_ok-index.index c.in_ok-index.values c.in_ok-index.ensures
    (ap (option_map (map (λ n. n))) (images-all (values128 c.in_ok-index.values)) ∙ c.in_ok-open_u128_mapped.ensures.ok))
    c.column_of_values.ensures

pub returns-clause-bounds : goal.returns-clause-bounds
returns-clause-bounds c =
    let list = c.in_ok-open_u128_mapped.field-0 in
    let opened = c.in_ok-open_u128_mapped.ensures in
    let values = Read list in
    column-keeps HasExactBounds c.column_of_values.result c.in_ok-index.index (version_number c.args.format_version)
    c.args.num_rows (length (ip_values_of values)) values c.column_of_values.ensures
    (bounds-read _ (λ n d. sym d.1 ∙ d.2) (values128 c.in_ok-index.values) list.values list.low list.high opened.ok
    opened.least opened.greatest)
