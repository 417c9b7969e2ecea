use Rattle.std.proofs.Common.{arith}
use Rattle.col_codecs.proofs.LineLemmas.{line_at-bytes}
use Rattle.col_codecs.proofs.line.Line.serialize.Goals as goal

pub returns-clause-again : goal.returns-clause-again
returns-clause-again g c rest = line_at-bytes c.args.self.now.slope c.args.self.now.intercept rest (omega arith) (omega arith)
