use Rattle.std.proofs.Common.{ap, ◌++◌, ◌∷◌}
use Rattle.col_common.specs.VInt.{vint_bytes}
use Rattle.col_common.proofs.SerializingLemmas.{serializes-as, serializes-then}
use Rattle.col_compact.specs.Written.{ranges_bytes}
use Rattle.col_compact.proofs.footer.serialize_counts.Goals as goal

pub returns : goal.returns
returns g c = serializes-as _ _ _ _ _
    (serializes-then _ _ _ _ _ _ _ c.in_ok-serialize.ensures.ok c.serialize_space.ensures)
    (ap (λ n. vint_bytes n ++ (c.args.num_bits ∷ ranges_bytes c.args.compact_space.now)) c.from.ensures)
