use Rattle.std.proofs.Common.{◌∙◌, ap, is_some, subst, sym}
use Rattle.std.proofs.lemmas.Result.{err_from_is_err_and}
use Rattle.col_common.specs.Decoding.{Refuses}
use Rattle.col_index.specs.Versions.{version_number}
use Rattle.col_model.specs.Column.{column}
use Rattle.col_types.specs.Kinds.{kind_of}
use Rattle.col_upgrade.proofs.whole_column.test_column.Goals as goal

pub returns-in_err-column-clause-err : goal.returns-in_err-column-clause-err
returns-in_err-column-clause-err c =
    let p = err_from_is_err_and c.from_residual-in_err-column.result c.from_residual-in_err-column.ensures.1 in
    rw (p.1, p.2) (subst (λ b. Refuses c.in_err-column.field-0.0
    (column b (kind_of c.args.column_type) (version_number c.args.format_version) c.args.num_rows))
    c.in_ok-shared.ensures.cases c.in_err-column.ensures.column)

pub returns-clause-ok : goal.returns-clause-ok
returns-clause-ok c =
    ap is_some (ap (λ b. column b (kind_of c.args.column_type) (version_number c.args.format_version) c.args.num_rows)
    (sym c.in_ok-shared.ensures.cases) ∙ c.in_ok-column.ensures.column)
