use Rattle.std.proofs.Common.{take}
use Rattle.col_segments.proofs.IdLemmas.{Spells}
use Rattle.col_segments.proofs.rows.id_bytes.Given as goal

abbrev pub invariant-loop-id : goal.invariant-loop-id
invariant-loop-id l = Spells l.bytes.items (take l.id-index l.ids)
