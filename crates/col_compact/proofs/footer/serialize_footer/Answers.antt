use Rattle.std.proofs.Common.{append_assoc}
use Rattle.std.proofs.lemmas.Result.{err_from_is_err_and}
use Rattle.col_common.specs.VInt.{vint_bytes}
use Rattle.col_common.proofs.SerializingLemmas.{serializes-as, serializes-stopped, serializes-then}
use Rattle.col_compact.specs.Written.{flags_bytes}
use Rattle.col_compact.proofs.footer.serialize_footer.Goals as goal

pub returns-in_err-serialize_pair : goal.returns-in_err-serialize_pair
unfolding flags_bytes
returns-in_err-serialize_pair g c =
    let p = err_from_is_err_and c.from_residual-in_err-serialize_pair.result c.from_residual-in_err-serialize_pair.ensures.1 in
    rw (p.1, p.2) (serializes-stopped _ _ _ _ _
    (serializes-then _ _ _ _ _ flags_bytes _ c.in_ok-serialize_bytes.ensures c.in_err-serialize_pair.ensures))

pub returns : goal.returns
unfolding flags_bytes
returns g c =
    serializes-then _ _ _ _ _ flags_bytes _ c.in_ok-serialize_bytes.ensures
    (serializes-as _ _ _ _ _
    (serializes-then _ _ _ _ _ _ _ c.in_ok-serialize_pair.ensures c.serialize_counts.ensures)
    (append_assoc (vint_bytes c.args.min_value) (vint_bytes c.args.max_value) _))
