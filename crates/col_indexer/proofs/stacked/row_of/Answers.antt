use Rattle.col_indexer.proofs.StackedStartLemmas.{next-is}
use Rattle.col_indexer.proofs.stacked.row_of.Goals as goal

pub returns : goal.returns
returns c = next-is c.args.rows.now c.args.place c.next.result _ c.next.ensures.value
