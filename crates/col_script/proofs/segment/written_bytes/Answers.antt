use Rattle.std.proofs.lemmas.Result.{err_from_is_err_and}
use Rattle.col_script.proofs.FileLemmas.{bytes-made, bytes-refused}
use Rattle.col_script.proofs.segment.written_bytes.Goals as goal

pub returns-in_err-serialize : goal.returns-in_err-serialize
returns-in_err-serialize c =
    let p = err_from_is_err_and c.from_residual.result c.from_residual.ensures.1 in
    rw (p.1, p.2) (bytes-refused _ _ _ _ c.in_err-serialize.ensures)

pub returns : goal.returns
returns c = bytes-made c.into_bytes.result _ _ _ _ c.new-file.ensures c.into_bytes.ensures c.in_ok-serialize.ensures
