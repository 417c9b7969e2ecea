use Rattle.std.proofs.Common.{arith}
use Rattle.col_common.proofs.VIntLemmas.{vint_u128-vint_bytes}
use Rattle.col_common.proofs.vint.VIntU128.serialize.Goals as goal

pub returns-clause-again : goal.returns-clause-again
returns-clause-again g c rest = vint_u128-vint_bytes c.args.self.now.0 rest (omega arith)
