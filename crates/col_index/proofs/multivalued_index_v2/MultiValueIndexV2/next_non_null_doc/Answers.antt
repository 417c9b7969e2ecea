use Rattle.std.proofs.Common.{sym, ap, subst, ◌∙◌}
use Rattle.col_model.specs.Index.{RowOffsets}
use Rattle.col_model.specs.Positions.{next_row}
use Rattle.col_index.specs.Offsets.{AreOffsets}
use Rattle.col_index.proofs.CountLaws.{offset_counts-rows}
use Rattle.col_index.proofs.multivalued_index_v2.MultiValueIndexV2.next_non_null_doc.Goals as goal

pub returns : goal.returns
returns c =
    c.next_non_null_doc.ensures
    ∙ ap (λ (o : RowOffsets). next_row o.set.rows c.args.target) c.self.view_is
    ∙ ap (λ rows. next_row rows c.args.target) (sym (offset_counts-rows c.args.self.now (subst AreOffsets c.self.view_is c.self.invariant)))
