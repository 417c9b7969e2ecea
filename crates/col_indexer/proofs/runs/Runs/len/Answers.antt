use Rattle.std.proofs.Common.{◌∙◌}
use Rattle.col_indexer.proofs.RunListLemmas.{runs-counted}
use Rattle.col_indexer.proofs.runs.Runs.len.Goals as goal

pub returns : goal.returns
returns c = c.len.ensures ∙ c.self.inside.starts.ok.0 ∙ runs-counted _ _ _ c.self.invariant c.self.view_is
