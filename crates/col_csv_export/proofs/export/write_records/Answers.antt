use Rattle.std.proofs.lemmas.Result.{err_from_is_err_and}
use Rattle.col_csv_export.proofs.PutLemmas.{texts-refused, texts-written}
use Rattle.col_csv_export.proofs.export.write_records.Goals as goal

pub returns-in_err-put_rows : goal.returns-in_err-put_rows
returns-in_err-put_rows g c =
    let p = err_from_is_err_and c.from_residual-in_err-put_rows.result c.from_residual-in_err-put_rows.ensures.1 in
    rw (p.1, p.2) (texts-refused _ _ _ _ _ _ _ _ _ _ _ c.in_ok-put_header.ensures c.in_err-put_rows.ensures)

pub returns : goal.returns
returns g c =
    texts-written _ _ _ _ _ _ _ _ _ _ _ _ _ c.new-held.ensures.items c.deref.ensures.value c.in_ok-put_header.ensures
    c.in_ok-put_rows.ensures c.serialize_bytes.ensures
