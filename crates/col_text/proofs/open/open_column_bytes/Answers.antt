use Rattle.std.proofs.Common.{true, false, length, Some, sym, ◌∙◌}
use Rattle.std.proofs.lemmas.Result.{err_from_is_err_and}
use Rattle.std.specs.Int.{w32}
use Rattle.col_common.proofs.DecodingLemmas.{refuses-as}
use Rattle.col_common.specs.Reading.{parts_by_first}
use Rattle.col_column.specs.Versions.{version_number}
use Rattle.col_model.specs.Column.{column, number_rows}
use Rattle.col_model.specs.ColumnType as types
use Rattle.col_model.specs.Dictionary.{terms}
use Rattle.col_column.specs.NumValues.{num_values_of}
use Rattle.col_text.specs.Texts.{texts_content}
use Rattle.col_text.proofs.OpenTextLemmas.{uncut, without_terms, without_rows, with_rows, terms-ascend, ordinals-below}
use Rattle.col_text.proofs.open.open_column_bytes.Goals as goal

pub returns-in_err-terms : goal.returns-in_err-terms
returns-in_err-terms c =
    let v = version_number c.args.format_version in
    let p = err_from_is_err_and c.from_residual.result c.from_residual.ensures.1 in
    rw (p.1, p.2) (refuses-as c.in_err-terms.field-0.0 (parts_by_first w32 c.args.bytes) (column c.args.bytes types.bytes v c.args.num_rows)
    (uncut c.args.bytes v c.args.num_rows)
    c.in_err-terms.ensures)

pub returns-in_err-dictionary : goal.returns-in_err-dictionary
returns-in_err-dictionary c =
    let v = version_number c.args.format_version in
    let parts = c.in_ok-terms in
    let after = c.from_residual-in_err-dictionary in
    let p = err_from_is_err_and after.result after.ensures.1 in
    rw (p.1, p.2) (refuses-as c.in_err-dictionary.field-0.0 (terms parts.terms) (column c.args.bytes types.bytes v c.args.num_rows)
    (without_terms c.args.bytes v c.args.num_rows parts.terms parts.ords parts.ensures)
    c.in_err-dictionary.ensures.ok)

pub returns-in_err-ords : goal.returns-in_err-ords
returns-in_err-ords c =
    let v = version_number c.args.format_version in
    let parts = c.in_ok-terms in
    let after = c.from_residual-in_err-ords in
    let p = err_from_is_err_and after.result after.ensures.1 in
    rw (p.1, p.2) (refuses-as c.in_err-ords.field-0.0 (number_rows parts.ords types.bytes v c.args.num_rows)
    (column c.args.bytes types.bytes v c.args.num_rows)
    (without_rows c.args.bytes v c.args.num_rows parts.terms parts.ords parts.ensures c.in_ok-dictionary.dictionary
    c.in_ok-dictionary.ensures.ok)
    c.in_err-ords.ensures)

pub returns-then-not-are_ordinals : goal.returns-then-not-are_ordinals
returns-then-not-are_ordinals c =
    let parts = c.in_ok-terms in
    let found = c.in_ok-dictionary in
    with_rows c.args.bytes (version_number c.args.format_version) c.args.num_rows parts.terms parts.ords
    parts.ensures found.dictionary found.ensures.ok
    _ _ c.in_ok-ords.ords false c.ords-2.view_is c.ords-2.invariant c.in_ok-ords.ensures c.if-not-are_ordinals.ensures

pub new-requires : goal.new-requires
new-requires c = record {
  ascend = terms-ascend c.in_ok-terms.terms c.in_ok-dictionary.dictionary c.in_ok-dictionary.ensures.ok;
  below = ordinals-below (length c.in_ok-dictionary.dictionary) (num_values_of c.in_ok-ords.ords.values) c.if-not-are_ordinals.ensures;
}

pub returns : goal.returns
returns c =
    let parts = c.in_ok-terms in
    let found = c.in_ok-dictionary in
    with_rows c.args.bytes (version_number c.args.format_version) c.args.num_rows parts.terms parts.ords
    parts.ensures found.dictionary found.ensures.ok
    _ _ c.in_ok-ords.ords true c.ords-2.view_is c.ords-2.invariant c.in_ok-ords.ensures c.if-not-are_ordinals.ensures
    ∙ (λ i. Some (texts_content (record { terms = sym c.new.ensures.terms i; ords = sym c.new.ensures.ords i })))
