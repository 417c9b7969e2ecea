use Rattle.std.proofs.Common.{[], length, map, option_map}
use Rattle.std.proofs.lemmas.Result.{err_from_is_err_and}
use Rattle.std.specs.Int.{w64}
use Rattle.col_common.specs.Reading.{parts_by_first}
use Rattle.col_common.proofs.DecodingLemmas.{refuses-as}
use Rattle.col_indexer.specs.Versions.{version_number}
use Rattle.col_model.specs.Column.{column}
use Rattle.col_model.specs.Images.{images64}
use Rattle.col_model.specs.U64List.{values64}
use Rattle.col_numbers.specs.NumValues.{num_values_of}
use Rattle.col_column.specs.Columns.{content_seen}
use Rattle.col_column.specs.Opened.{indexed_by}
use Rattle.col_column.proofs.OpenSeenLemmas.{decodes-as, column-unparted, column-unread, column-read}
use Rattle.col_column.proofs.open.open_column_u64.Goals as goal

pub returns-in_err-index : goal.returns-in_err-index
returns-in_err-index g c =
    let v = version_number c.args.format_version in
    let t = g.T.HasAssociatedColumnType in
    let m = g.T.MonotonicallyMappableToU64 in
    let p = err_from_is_err_and c.from_residual.result c.from_residual.ensures.1 in
    rw (p.1, p.2) (refuses-as c.in_err-index.field-0.0 (parts_by_first w64 c.args.bytes) (column c.args.bytes t.kind v c.args.num_rows)
    (column-unparted values64 t.kind t.cell m.value m.is_code g.met.T.StoredAsU64.stored c.args.bytes v c.args.num_rows)
    c.in_err-index.ensures)

pub returns-in_err-values : goal.returns-in_err-values
returns-in_err-values g c =
    let v = version_number c.args.format_version in
    let t = g.T.HasAssociatedColumnType in
    let m = g.T.MonotonicallyMappableToU64 in
    let p = err_from_is_err_and c.from_residual-in_err-values.result c.from_residual-in_err-values.ensures.1 in
    rw (p.1, p.2) (refuses-as c.in_err-values.field-0.0
    (option_map (map m.value) (images64 m.is_code c.in_ok-index.values))
    (column c.args.bytes t.kind v c.args.num_rows)
    (column-unread values64 t.kind t.cell m.value m.is_code g.met.T.StoredAsU64.stored c.args.bytes v
    c.args.num_rows c.in_ok-index.index c.in_ok-index.values c.in_ok-index.ensures)
    c.in_err-values.ensures.ok)

pub returns : goal.returns
returns g c =
    let v = version_number c.args.format_version in
    let t = g.T.HasAssociatedColumnType in
    let m = g.T.MonotonicallyMappableToU64 in
    let values = c.in_ok-values.values in
    decodes-as (λ column. content_seen [] t.cell column.shape (num_values_of column.values)) c.column_of_values.result
    (indexed_by c.in_ok-index.index v c.args.num_rows (length (num_values_of values)) values) (column c.args.bytes t.kind v c.args.num_rows)
    (column-read num_values_of values values64 t.kind t.cell m.value m.is_code g.met.T.StoredAsU64.stored
    c.args.bytes v c.args.num_rows c.in_ok-index.index c.in_ok-index.values c.in_ok-index.ensures
    c.in_ok-values.ensures.ok)
    c.column_of_values.ensures
