use Rattle.col_index.proofs.select_near.InRunsSelectNear.none_near.Goals as goal

pub returns : goal.returns
returns c = c.none.ensures _
