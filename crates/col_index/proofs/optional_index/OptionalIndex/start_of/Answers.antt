use Rattle.std.proofs.Common.{sym, ◌∙◌}
use Rattle.col_index.proofs.CountLaws.{set_counts-start}
use Rattle.col_index.proofs.optional_index.OptionalIndex.start_of.Goals as goal

pub returns : goal.returns
returns c = c.rank.ensures ∙ sym (set_counts-start c.args.self.now c.rows_rise.ensures c.args.doc_id)
