use Rattle.std.proofs.Common.{◌∙◌, ap, arith, ◌≡◌, ◌++◌}
use Rattle.col_writer_rows.proofs.DocumentLemmas.{all-docs, one-doc}
use Rattle.col_writer_rows.proofs.doc_list.DocList.to_vec.Goals as goal

pub loop-doc-preserved : goal.loop-doc-preserved
loop-doc-preserved c = one-doc c.loop-doc.doc c.loop-doc.all.items c.push.new.self.items c.loop-doc.invariant c.in_ok-push.ensures.items

pub returns : goal.returns
returns c =
    let ended : c.loop-doc.doc ≡ c.self.inside.num_dense = omega arith in
    c.in_ok-extend_from_slice.ensures.items ∙ ap (λ r. c.loop-doc.all.items ++ r) c.deref.ensures.value
    ∙ all-docs c.self.inside.num_dense c.loop-doc.doc c.loop-doc.all.items c.self.inside.others.items
    c.args.self.now c.loop-doc.invariant ended c.self.view_is
