use Rattle.col_common.specs.VInt.{vint_bytes}
use Rattle.col_common.proofs.VIntSpellingLemmas.{IsSpelled}
use Rattle.col_common.proofs.vint.spell.Given as goal

abbrev pub invariant-loop-rest : goal.invariant-loop-rest
invariant-loop-rest l = IsSpelled l.len l.rest l.bytes (vint_bytes l.value)

abbrev pub decreases-loop-rest : goal.decreases-loop-rest
decreases-loop-rest l = l.rest
