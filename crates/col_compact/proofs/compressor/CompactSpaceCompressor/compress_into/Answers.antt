use Rattle.std.proofs.Common.{◌∙◌, ap, length, arith}
use Rattle.std.proofs.lemmas.Result.{err_from_is_err_and}
use Rattle.col_common.proofs.SerializingLemmas.{serializes-no_memory, serializes-then, serializes-as}
use Rattle.col_compact.proofs.WritingLemmas.{on_ok-always, coded_bytes-parts, coded_bytes-again}
use Rattle.col_compact.proofs.compressor.CompactSpaceCompressor.compress_into.Goals as goal

pub returns-in_err-codes-clause-ok : goal.returns-in_err-codes-clause-ok
returns-in_err-codes-clause-ok g c =
    let p = err_from_is_err_and c.from_residual.result c.from_residual.ensures.1 in
    rw (p.1, p.2) (serializes-no_memory _ _)

pub returns-in_err-footer-clause-ok : goal.returns-in_err-footer-clause-ok
returns-in_err-footer-clause-ok g c =
    let p = err_from_is_err_and c.from_residual-in_err-footer.result c.from_residual-in_err-footer.ensures.1 in
    rw (p.1, p.2) (serializes-no_memory _ _)

pub returns-clause-ok : goal.returns-clause-ok
returns-clause-ok g c =
    serializes-as _ _ _ _ _
    (serializes-then _ _ _ _ _ _ _ c.in_ok-serialize_bytes.ensures c.serialize_with_length.ensures)
    (coded_bytes-parts _ _ _ _ _ c.self.view_is (c.as_slice.ensures.value ∙ c.in_ok-codes.ensures)
    (c.as_slice-2.ensures ∙ c.in_ok-footer.ensures))

pub returns-clause-again : goal.returns-clause-again
returns-clause-again g c =
    on_ok-always _ (coded_bytes-again _ _ _ _ c.self.view_is c.lists_are_read_back.ensures c.requires
    c.in_ok-footer.ensures
    (let fits = c.as_slice-2.type_inv in omega (arith, fits.0, ap length c.as_slice-2.ensures)))
