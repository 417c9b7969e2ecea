use Rattle.std.proofs.Common.{sym, ◌∙◌}
use Rattle.col_indexer.proofs.CountLaws.{length-set_counts}
use Rattle.col_column.proofs.column.Column.num_docs.Goals as goal

pub returns-in-Optional : goal.returns-in-Optional
returns-in-Optional g c = rw (← c.self.view_is, c.in-Optional.is) (c.num_docs.ensures ∙ sym (length-set_counts c.in-Optional.index))
