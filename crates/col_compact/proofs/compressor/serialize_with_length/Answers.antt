use Rattle.std.proofs.Common.{ap, ◌++◌}
use Rattle.col_common.proofs.SerializingLemmas.{serializes-as, serializes-then}
use Rattle.col_compact.proofs.compressor.serialize_with_length.Goals as goal

pub returns : goal.returns
returns g c = serializes-as _ _ _ _ _
    (serializes-then _ _ _ _ _ _ _ c.in_ok-serialize_bytes.ensures c.serialize_bytes-2.ensures)
    (ap (λ bytes. c.args.bytes.now ++ bytes) c.to_le_bytes.ensures)
