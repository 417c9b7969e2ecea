use Rattle.std.proofs.Common.{rules, ◌≡◌, slice_index, sym, ap, ◌∙◌}
use Rattle.col_model.specs.Positions.{rank}
use Rattle.col_index.specs.Offsets.{AreOffsets}
use Rattle.col_index.proofs.CountLaws.{offset_counts-start}
use Rattle.col_index.proofs.multivalued_index_v2.MultiValueIndexV2.start_of.Goals as goal

pub returns : goal.returns
returns c =
    let o = c.args.self.now in
    let a : AreOffsets o = search rules in
    let r : c.rank.result ≡ rank o.set.rows c.args.doc_id = search rules in
    c.start_at.ensures ∙ ap (slice_index o.starts) r ∙ sym (offset_counts-start o a c.args.doc_id)
