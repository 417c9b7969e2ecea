use Rattle.std.proofs.Common.{◌∙◌, ap, arith, ◌≡◌, ◌<◌, ◌^◌, length, refl, get_or}
use Rattle.std.proofs.lemmas.List.{take_all}
use Rattle.col_writer_rows.specs.RowOrders.{first_docs, noted}
use Rattle.col_writer_rows.proofs.RowLemmas.{lent-whole}
use Rattle.col_writer_rows.proofs.OrderLemmas.{noted-none, noted-next}
use Rattle.col_writer_rows.proofs.row_order.first_docs.Goals as goal

pub loop-doc-init : goal.loop-doc-init
loop-doc-init c = c.in_ok-docs.ensures.items_if_clones_equal (λ y h. h) ∙ noted-none c.args.num_docs

pub loop-doc-preserved : goal.loop-doc-preserved
loop-doc-preserved c =
    let fits : c.args.num_docs < 2 ^ 32 = omega arith in
    let low : c.loop-doc.doc < c.args.num_docs = omega (arith, c.requires) in
    let same : length c.note_doc.new.docs ≡ c.loop-doc.docs.len = omega (arith, c.note_doc.auto.docs, c.deref_mut.ensures.len) in
    lent-whole c.loop-doc.docs.len c.note_doc.new.docs _ same
    ∙ c.note_doc.ensures
    ∙ ap (λ r. noted r c.loop-doc.doc (get_or c.args.rows.now c.loop-doc.doc 0)) c.deref_mut.ensures.value
    ∙ noted-next c.args.num_docs c.loop-doc.docs.items c.args.rows.now c.loop-doc.doc
    (get_or c.args.rows.now c.loop-doc.doc 0) fits c.requires c.loop-doc.invariant low refl

pub returns : goal.returns
returns c = c.loop-doc.invariant ∙ ap (first_docs c.args.num_docs) (take_all c.loop-doc.doc c.args.rows.now (omega arith))
