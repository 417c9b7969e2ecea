use Rattle.std.proofs.Common.{◌∙◌}
use Rattle.col_indexer.proofs.RunListLemmas.{starts-shown}
use Rattle.col_indexer.proofs.runs.Runs.starts.Goals as goal

pub returns : goal.returns
returns c = c.deref.ensures.value ∙ starts-shown _ _ _ c.self.invariant c.self.view_is
