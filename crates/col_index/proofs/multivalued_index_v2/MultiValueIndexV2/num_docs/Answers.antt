use Rattle.std.proofs.Common.{sym, ap, ◌∙◌}
use Rattle.col_model.specs.Index.{RowOffsets}
use Rattle.col_index.proofs.CountLaws.{length-offset_counts}
use Rattle.col_index.proofs.multivalued_index_v2.MultiValueIndexV2.num_docs.Goals as goal

pub returns : goal.returns
returns c = c.num_docs.ensures ∙ ap (λ (o : RowOffsets). o.set.num_rows) c.self.view_is ∙ sym (length-offset_counts c.args.self.now)
