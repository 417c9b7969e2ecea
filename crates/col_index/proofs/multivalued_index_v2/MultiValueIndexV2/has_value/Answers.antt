use Rattle.std.proofs.Common.{sym, ap, subst, ◌∙◌}
use Rattle.col_model.specs.Index.{RowOffsets}
use Rattle.col_index.specs.Offsets.{AreOffsets}
use Rattle.col_index.specs.Sets.{holds}
use Rattle.col_index.proofs.CountLaws.{offset_counts-some}
use Rattle.col_index.proofs.multivalued_index_v2.MultiValueIndexV2.has_value.Goals as goal

pub returns : goal.returns
returns c =
    c.contains.ensures
    ∙ ap (λ (o : RowOffsets). holds o.set.rows c.args.doc_id) c.self.view_is
    ∙ sym (offset_counts-some c.args.self.now (subst AreOffsets c.self.view_is c.self.invariant) c.args.doc_id)
