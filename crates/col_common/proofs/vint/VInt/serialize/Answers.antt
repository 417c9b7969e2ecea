use Rattle.std.proofs.Common.{arith}
use Rattle.col_common.proofs.VIntLemmas.{vint-vint_bytes}
use Rattle.col_common.proofs.vint.VInt.serialize.Goals as goal

pub returns-clause-again : goal.returns-clause-again
returns-clause-again g c rest = vint-vint_bytes c.args.self.now.0 rest (omega arith)
