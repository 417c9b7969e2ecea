use Rattle.std.proofs.Common.{refl}
use Rattle.col_writer_columns.proofs.OrderLemmas.{numbered-more}
use Rattle.col_writer_columns.proofs.sort_order.numbered.Goals as goal

pub loop-doc-preserved : goal.loop-doc-preserved
loop-doc-preserved c =
    numbered-more c.args.reversed c.args.firsts.now c.loop-doc.pairs.items c.push.new.self.items c.loop-doc.doc
    c.turned.result _ c.loop-doc.invariant c.in_ok-push.ensures.items c.turned.ensures refl
