use Rattle.std.proofs.Common.{◌∙◌, ap, sum, arith}
use Rattle.col_indexer.proofs.RunListLemmas.{lengths-shown}
use Rattle.col_indexer.proofs.runs.Runs.num_rows.Goals as goal

pub sum_of-requires : goal.sum_of-requires
sum_of-requires c =
    omega (arith, c.requires, ap sum (c.deref.ensures.value ∙ lengths-shown _ _ _ c.self.invariant c.self.view_is))

pub returns : goal.returns
returns c = c.sum_of.ensures ∙ ap sum (c.deref.ensures.value ∙ lengths-shown _ _ _ c.self.invariant c.self.view_is)
