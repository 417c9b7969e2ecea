use Rattle.std.proofs.Common.{Ok, sym, ap, ◌∙◌, subst}
use Rattle.std.proofs.lemmas.Result.{err_from_is_err_and}
use Rattle.col_dynamic.specs.Columns.{Seen}
use Rattle.col_dynamic.specs.Versions.{version_number}
use Rattle.col_model.specs.Column.{column}
use Rattle.col_model.specs.ColumnType as types
use Rattle.col_dynamic_open.specs.Contents.{DecodesTo}
use Rattle.col_dynamic_open.specs.Lenient.{IsInPlaceOf}
use Rattle.col_dynamic_open.specs.LenientValues.{codes_of}
use Rattle.col_dynamic_open.specs.declared.lenient.LenientValues.{LenientValues}
use Rattle.col_dynamic_open.specs.declared.lenient.LenientValues.TheVariants.{Compact}
use Rattle.col_dynamic_open.proofs.LenientLemmas.{codes-refused, codes-opened}
use Rattle.col_dynamic_open.proofs.open_lenient.open_ip_addr.Goals as goal

pub returns-in_err-codes-clause-column : goal.returns-in_err-codes-clause-column
returns-in_err-codes-clause-column c =
    let p = err_from_is_err_and c.from_residual.result c.from_residual.ensures.1 in
    rw (p.1, p.2) (codes-refused c.args.bytes (version_number c.args.format_version) c.args.num_rows
    c.in_err-codes.field-0.0 c.in_err-codes.ensures.ok)

pub returns-clause-column : goal.returns-clause-column
returns-clause-column c =
    let s = c.in_ok-codes.codes.shape in
    let d = c.in_ok-codes.codes.values in
    let opened = codes-opened c.args.bytes (version_number c.args.format_version) c.args.num_rows s d c.in_ok-codes.ensures.ok in
    subst (λ (made : Seen LenientValues). DecodesTo (IsInPlaceOf types.ip) (Ok made)
    (column c.args.bytes types.ip (version_number c.args.format_version) c.args.num_rows))
    (λ i. record {
      shape = sym (c.new.ensures.index ∙ c.into_parts-index.ensures.index) i;
      values = sym (c.new.ensures.values ∙ ap Compact c.into_parts-index.ensures.values) i;
    })
    opened

pub returns-clause-codes : goal.returns-clause-codes
returns-clause-codes c = ap codes_of (c.new.ensures.values ∙ ap Compact c.into_parts-index.ensures.values) ∙ sym c.in_ok-codes.ensures.codes
