use Rattle.std.proofs.Common.{append_assoc, ◌∷◌, []}
use Rattle.col_common.specs.VInt.{vint_bytes}
use Rattle.col_common.proofs.SerializingLemmas.{serializes-as, serializes-then}
use Rattle.col_model.specs.Codecs.{params_bytes}
use Rattle.col_codecs.proofs.linear_params.LinearParams.serialize.Goals as goal

pub returns : goal.returns
unfolding params_bytes
returns g c =
    let l = c.args.self.now.line in
    serializes-as _ _ _ _ _
    (serializes-then _ _ _ _ _ _ _ c.in_ok-serialize.ensures.ok c.serialize_bytes.ensures)
    (append_assoc (vint_bytes l.slope) (vint_bytes l.intercept) (c.args.self.now.offset_width ∷ []))
