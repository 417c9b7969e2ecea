use Rattle.std.proofs.Common.{sym, arith}
use Rattle.col_indexer.proofs.UniformLemmas.{number_within, number_past}
use Rattle.col_indexer.proofs.stacked.number_below.Goals as goal

pub returns-then-number-limit : goal.returns-then-number-limit
returns-then-number-limit c = sym (number_within c.args.limit c.args.number (omega arith))

pub returns-else-number-limit : goal.returns-else-number-limit
returns-else-number-limit c = sym (number_past c.args.limit c.args.number (omega arith))
