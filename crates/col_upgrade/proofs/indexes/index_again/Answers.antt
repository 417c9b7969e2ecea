use Rattle.std.proofs.lemmas.Result.{err_from_is_err_and, IfOk-weaker}
use Rattle.col_index.specs.Indexes.{shape_of}
use Rattle.col_index.specs.Versions.{version_number}
use Rattle.col_model.specs.Index.{shape}
use Rattle.col_upgrade.proofs.IndexLemmas.{opened-alone, opened-again, opened-read}
use Rattle.col_upgrade.proofs.RefusalLemmas.{only-memory}
use Rattle.col_upgrade.proofs.indexes.index_again.Goals as goal

pub returns-in_err-index-clause-err : goal.returns-in_err-index-clause-err
returns-in_err-index-clause-err c =
    let p = err_from_is_err_and c.from_residual.result c.from_residual.ensures.1 in
    let version = version_number c.args.format_version in
    rw (p.1, p.2) (only-memory c.in_err-index.field-0.0 (shape c.args.bytes version)
    (opened-read c.args.bytes version c.args.num_rows c.requires) c.in_err-index.ensures.answer)

pub spelled-requires : goal.spelled-requires
spelled-requires c =
    opened-alone c.args.bytes (version_number c.args.format_version) c.args.num_rows (shape_of c.in_ok-index.index)
    c.requires c.in_ok-index.ensures.answer

pub returns-clause-ok : goal.returns-clause-ok
returns-clause-ok c =
    IfOk-weaker c.spelled.result _ _
    (λ made h. opened-again c.args.bytes (version_number c.args.format_version) c.args.num_rows (shape_of c.in_ok-index.index)
    made c.in_ok-index.ensures.answer h)
    c.spelled.ensures.ok
