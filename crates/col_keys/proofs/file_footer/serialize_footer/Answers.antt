use Rattle.std.proofs.lemmas.Result.{err_from_is_err_and}
use Rattle.col_common.proofs.SerializingLemmas.{serializes-as, serializes-refused, serializes-then}
use Rattle.col_keys.proofs.FooterLemmas.{footer-parts}
use Rattle.col_keys.proofs.file_footer.serialize_footer.Goals as goal

pub returns-in_err-serialize_bytes-2 : goal.returns-in_err-serialize_bytes-2
returns-in_err-serialize_bytes-2 g c =
    let p = err_from_is_err_and c.from_residual-in_err-serialize_bytes-2.result c.from_residual-in_err-serialize_bytes-2.ensures.1 in
    rw (p.1, p.2) (serializes-refused _ _ _ _ _ _ _ _ c.in_ok-serialize_bytes.ensures c.in_err-serialize_bytes-2.ensures)

pub returns : goal.returns
returns g c =
    let whole = footer-parts c.args.key_table_len c.args.num_docs c.to_le_bytes.result c.to_le_bytes-2.result
    c.footer.result c.to_le_bytes.ensures c.to_le_bytes-2.ensures c.footer.ensures in
    let front = serializes-then _ _ _ _ _ _ _ c.in_ok-serialize_bytes.ensures c.in_ok-serialize_bytes-2.ensures in
    serializes-as _ _ _ _ _ (serializes-then _ _ _ _ _ _ _ front c.serialize_bytes-3.ensures) whole
