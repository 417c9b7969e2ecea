use Rattle.col_gen.proofs.AddedLemmas.{addr-none}
use Rattle.col_gen.proofs.lines.push_addr.Goals as goal

pub returns-then-drawn-ne0 : goal.returns-then-drawn-ne0
returns-then-drawn-ne0 c = addr-none _ c.args.document c.args.drawn c.if-drawn-ne0.true
