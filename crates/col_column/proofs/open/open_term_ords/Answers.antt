use Rattle.std.proofs.Common.{true, length, map, option_map, refl, sym, ◌∙◌}
use Rattle.std.proofs.lemmas.Result.{err_from_is_err_and}
use Rattle.std.specs.Int.{w64}
use Rattle.col_common.specs.Reading.{parts_by_first}
use Rattle.col_common.proofs.DecodingLemmas.{refuses-as}
use Rattle.col_indexer.specs.Versions.{version_number}
use Rattle.col_model.specs.Column.{number_rows}
use Rattle.col_model.specs.ColumnType as types
use Rattle.col_model.specs.Images.{images64}
use Rattle.col_model.specs.U64List.{values64}
use Rattle.col_numbers.specs.NumValues.{num_values_of}
use Rattle.col_column.specs.Opened.{counted_rows, indexed_by}
use Rattle.col_column.proofs.OpenSeenLemmas.{decodes-as, ordinals-all, rows-unparted, rows-unread, rows-read, values-all}
use Rattle.col_column.proofs.open.open_term_ords.Goals as goal

pub returns-in_err-index : goal.returns-in_err-index
returns-in_err-index c =
    let v = version_number c.args.format_version in
    let p = err_from_is_err_and c.from_residual.result c.from_residual.ensures.1 in
    rw (p.1, p.2) (refuses-as c.in_err-index.field-0.0 (parts_by_first w64 c.args.bytes)
    (number_rows c.args.bytes types.bytes v c.args.num_rows)
    (rows-unparted types.bytes c.args.bytes v c.args.num_rows)
    c.in_err-index.ensures)

pub returns-in_err-values : goal.returns-in_err-values
returns-in_err-values c =
    let v = version_number c.args.format_version in
    let b = c.in_ok-index.values in
    let p = err_from_is_err_and c.from_residual-in_err-values.result c.from_residual-in_err-values.ensures.1 in
    rw (p.1, p.2) (refuses-as c.in_err-values.field-0.0 (option_map (map (λ n. n)) (images64 (λ _. true) b))
    (number_rows c.args.bytes types.bytes v c.args.num_rows)
    (λ e. rows-unread types.bytes values64 ordinals-all c.args.bytes v c.args.num_rows c.in_ok-index.index b
    c.in_ok-index.ensures (sym (values-all (values64 b)) ∙ e))
    c.in_err-values.ensures.ok)

pub returns : goal.returns
returns c =
    let v = version_number c.args.format_version in
    let b = c.in_ok-index.values in
    let values = c.in_ok-values.values in
    let count = length (num_values_of values) in
    decodes-as (λ column. counted_rows column.shape (num_values_of column.values)) c.column_of_values.result
    (indexed_by c.in_ok-index.index v c.args.num_rows count values) (number_rows c.args.bytes types.bytes v c.args.num_rows)
    (rows-read num_values_of values count refl types.bytes values64 ordinals-all c.args.bytes v c.args.num_rows
    c.in_ok-index.index b c.in_ok-index.ensures
    (sym (values-all (values64 b)) ∙ c.in_ok-values.ensures.ok))
    c.column_of_values.ensures
