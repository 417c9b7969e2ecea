use Rattle.std.proofs.Common.{arith}
use Rattle.col_common.proofs.VIntSpellingLemmas.{spelled-more, spelled-last}
use Rattle.col_common.proofs.vint.spell.Goals as goal

pub loop-rest-preserved : goal.loop-rest-preserved
loop-rest-preserved c = spelled-more _ _ _ _ (omega arith) (omega arith) c.loop-rest.invariant

pub returns-clause-spelled : goal.returns-clause-spelled
returns-clause-spelled c = spelled-last _ _ _ _ (omega arith) (omega arith) c.loop-rest.invariant
