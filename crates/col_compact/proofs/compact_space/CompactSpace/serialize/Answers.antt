use Rattle.std.proofs.Common.{refl}
use Rattle.col_common.proofs.SerializingLemmas.{serializes-as, serializes-then}
use Rattle.col_compact.proofs.SpelledLemmas.{again-of, ranges_bytes-parts}
use Rattle.col_compact.proofs.compact_space.CompactSpace.serialize.Goals as goal

pub returns-clause-ok : goal.returns-clause-ok
returns-clause-ok g c =
    serializes-as _ _ _ _ _
    (serializes-then _ _ _ _ _ _ _ c.in_ok-serialize.ensures.ok c.serialize_ranges.ensures)
    (ranges_bytes-parts _ _ _ _ c.as_slice-ranges.ensures.value refl c.self.view_is)

pub returns-clause-again : goal.returns-clause-again
returns-clause-again g c = again-of _ _ c.self.invariant c.self.view_is

pub returns-in_err-serialize-clause-again : goal.returns-in_err-serialize-clause-again
returns-in_err-serialize-clause-again g c = again-of _ _ c.self.invariant c.self.view_is
