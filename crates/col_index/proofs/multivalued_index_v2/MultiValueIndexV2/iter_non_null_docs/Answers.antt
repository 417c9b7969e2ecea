use Rattle.std.proofs.Common.{sym, ap, subst, ◌∙◌}
use Rattle.col_model.specs.Index.{RowOffsets}
use Rattle.col_index.specs.Offsets.{AreOffsets}
use Rattle.col_index.proofs.CountLaws.{offset_counts-rows}
use Rattle.col_index.proofs.multivalued_index_v2.MultiValueIndexV2.iter_non_null_docs.Goals as goal

pub returns : goal.returns
returns c =
    c.iter_non_null_docs.ensures
    ∙ ap (λ (o : RowOffsets). o.set.rows) c.self.view_is
    ∙ sym (offset_counts-rows c.args.self.now (subst AreOffsets c.self.view_is c.self.invariant))
