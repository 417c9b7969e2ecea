use Rattle.std.proofs.lemmas.Result.{err_from_is_err_and}
use Rattle.col_keys.proofs.PutLemmas.{puts-as, puts-listed, puts-unlisted, puts-refused}
use Rattle.col_keys.proofs.column_serializer.ColumnSerializer.finalize.Goals as goal

pub returns-in_err-serialize_bytes : goal.returns-in_err-serialize_bytes
returns-in_err-serialize_bytes g c =
    let p = err_from_is_err_and c.from_residual.result c.from_residual.ensures.1 in
    rw (p.1, p.2) (puts-as _ _ _ _ _ _ _ _ (puts-refused _ _ _ _ _ _ c.in_err-serialize_bytes.ensures) c.as_slice-bytes.ensures)

pub returns-in_err-list : goal.returns-in_err-list
returns-in_err-list g c =
    let p = err_from_is_err_and c.from_residual-in_err-list.result c.from_residual-in_err-list.ensures.1 in
    rw (p.1, p.2) (puts-as _ _ _ _ _ _ _ _
    (puts-unlisted _ _ _ _ _ _ _ c.in_ok-serialize_bytes.ensures c.in_err-list.ensures.kept)
    c.as_slice-bytes.ensures)

pub returns : goal.returns
returns g c =
    let list = c.in_ok-list.ensures in
    puts-as _ _ _ _ _ _ _ _ (puts-listed _ _ _ _ _ _ _ _ c.in_ok-serialize_bytes.ensures list.ok list.fits) c.as_slice-bytes.ensures
