use Rattle.col_common.proofs.SerializingLemmas.{serializes-then}
use Rattle.col_compact.proofs.footer.serialize_pair.Goals as goal

pub returns : goal.returns
returns g c = serializes-then _ _ _ _ _ _ _ c.in_ok-serialize.ensures.ok c.serialize-2.ensures.ok
