use Rattle.col_gen.proofs.AddedLemmas.{line-printed}
use Rattle.col_gen.proofs.lookups.push_find.Goals as goal

pub returns : goal.returns
returns c = line-printed c.push_line.result _ _ _ _ c.in_ok-line.ensures c.push_line.ensures.ok
