use Rattle.std.proofs.Common.{◌∷◌, []}
use Rattle.col_common.proofs.SerializingLemmas.{serializes-then}
use Rattle.col_compact.proofs.footer.serialize_space.Goals as goal

pub returns : goal.returns
returns g c = serializes-then _ _ _ _ _ (c.args.num_bits ∷ []) _ c.in_ok-serialize_bytes.ensures c.serialize.ensures.ok
