use Rattle.std.proofs.Common.{◌∙◌}
use Rattle.col_indexer.proofs.RunListLemmas.{lengths-shown}
use Rattle.col_indexer.proofs.runs.Runs.lengths.Goals as goal

pub returns : goal.returns
returns c = c.deref.ensures.value ∙ lengths-shown _ _ _ c.self.invariant c.self.view_is
