use Rattle.std.proofs.Common.{◌∙◌, ap, sym}
use Rattle.col_writer_rows.specs.Documents.{all_from}
use Rattle.col_writer_rows.proofs.DocumentLemmas.{rising-dense}
use Rattle.col_writer_rows.proofs.doc_list.DocList.is_rising.Goals as goal

pub returns : goal.returns
returns c =
    c.rise_from.ensures ∙ ap (all_from c.from.result) c.deref.ensures.value
    ∙ ap (λ k. all_from k c.self.inside.others.items) c.from.ensures
    ∙ sym (rising-dense c.self.inside.num_dense c.self.inside.others.items c.args.self.now c.self.view_is)
