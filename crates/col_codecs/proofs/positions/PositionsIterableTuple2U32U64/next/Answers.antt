use Rattle.std.proofs.Common.{arith}
use Rattle.col_codecs.proofs.LineLemmas.{enumerated_next}
use Rattle.col_codecs.proofs.positions.PositionsIterableTuple2U32U64.next.Goals as goal

pub returns-clause-value : goal.returns-clause-value
returns-clause-value g c = enumerated_next _ _ _ c.get_val.ensures (omega (arith, c.num_vals.ensures))
