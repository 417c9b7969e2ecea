use Rattle.std.proofs.Common.{Some, ap, sym, ◌∙◌}
use Rattle.std.proofs.lemmas.Result.{err_from_is_err_and}
use Rattle.col_common.proofs.DecodingLemmas.{refuses-as}
use Rattle.col_column.specs.Versions.{version_number}
use Rattle.col_model.specs.Column.{column}
use Rattle.col_model.specs.ColumnType as types
use Rattle.col_text.specs.Texts.{texts_content}
use Rattle.col_text.proofs.OpenTextLemmas.{texts-as-bytes}
use Rattle.col_text.proofs.open.open_column_str.Goals as goal

pub returns-in_err-open_column_bytes : goal.returns-in_err-open_column_bytes
returns-in_err-open_column_bytes c =
    let v = version_number c.args.format_version in
    let p = err_from_is_err_and c.from_residual.result c.from_residual.ensures.1 in
    rw (p.1, p.2) (refuses-as c.in_err-open_column_bytes.field-0.0 (column c.args.bytes types.bytes v c.args.num_rows)
    (column c.args.bytes types.str v c.args.num_rows)
    (λ e. texts-as-bytes c.args.bytes v c.args.num_rows ∙ e)
    c.in_err-open_column_bytes.ensures)

pub returns : goal.returns
returns c =
    texts-as-bytes c.args.bytes (version_number c.args.format_version) c.args.num_rows
    ∙ c.in_ok-open_column_bytes.ensures ∙ ap (λ t. Some (texts_content t)) (sym c.wrap.ensures)
