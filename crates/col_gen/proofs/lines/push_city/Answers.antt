use Rattle.col_gen.proofs.AddedLemmas.{city-none}
use Rattle.col_gen.proofs.lines.push_city.Goals as goal

pub returns-then-drawn-eq0 : goal.returns-then-drawn-eq0
returns-then-drawn-eq0 c = city-none _ c.args.document c.args.drawn c.if-drawn-eq0.true
