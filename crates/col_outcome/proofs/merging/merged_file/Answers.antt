use Rattle.std.proofs.Common.{◌∙◌}
use Rattle.std.proofs.lemmas.Result.{err_from_is_err_and}
use Rattle.col_model.specs.File.{StandsFor}
use Rattle.col_outcome.specs.Making.{column_reads}
use Rattle.col_outcome.proofs.MergedFileLemmas.{readers-memory, readers-refused, readers-made}
use Rattle.col_outcome.proofs.merging.merged_file.Goals as goal

pub returns-in_err-merge_columnar : goal.returns-in_err-merge_columnar
returns-in_err-merge_columnar g c =
    let p = err_from_is_err_and c.from_residual.result c.from_residual.ensures.1 in
    rw (p.1, p.2) (readers-refused StandsFor column_reads _ _ c.new-file.result c.merge_columnar.new.output _ _
    c.in_err-merge_columnar.ensures.answer c.in_err-merge_columnar.ensures.kept)

pub returns-in_err-bytes : goal.returns-in_err-bytes
returns-in_err-bytes g c =
    let p = err_from_is_err_and c.from_residual-in_err-bytes.result c.from_residual-in_err-bytes.ensures.1 in
    rw p.1 (readers-memory StandsFor column_reads _ _ p.0 _ p.2 c.in_ok-merge_columnar.ensures.kept)

pub returns : goal.returns
returns g c =
    readers-made column_reads _ _ _ _ c.in_ok-bytes.bytes _ _ c.new-file.ensures
    (c.in_ok-bytes.ensures.ok ∙ c.into_bytes.ensures) c.in_ok-merge_columnar.ensures.answer
    c.in_ok-merge_columnar.ensures.kept
