use Rattle.std.proofs.Common.{◌++◌, ◌∷◌, [], ap}
use Rattle.col_common.specs.VInt.{vint_bytes}
use Rattle.col_common.proofs.SerializingLemmas.{serializes-as, serializes-then}
use Rattle.col_compact.proofs.header.U128Header.serialize.Goals as goal

pub returns-clause-ok : goal.returns-clause-ok
returns-clause-ok g c =
    serializes-as _ _ _ _ _ (serializes-then _ _ _ _ _ _ _ c.in_ok-serialize.ensures.ok c.serialize-2.ensures)
    (ap (λ n. vint_bytes n ++ 1 ∷ []) c.from.ensures)
