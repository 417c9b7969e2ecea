use Rattle.std.proofs.Common.{◌∙◌, sym, arith}
use Rattle.col_front.proofs.RiseLemmas.{rising, below, at_end}
use Rattle.col_front.proofs.asked.rise_below.Goals as goal

pub returns-clause-rising : goal.returns-clause-rising
returns-clause-rising c = λ _.
    rising 0 c.args.count c.args.docs.now (sym c.loop-doc.invariant
    ∙ at_end c.loop-doc.next c.args.count c.loop-doc.doc-index c.args.docs.now (omega (arith, c.loop-doc-test.false)))

pub returns-clause-below : goal.returns-clause-below
returns-clause-below c = λ _.
    below 0 c.args.count c.args.docs.now (sym c.loop-doc.invariant
    ∙ at_end c.loop-doc.next c.args.count c.loop-doc.doc-index c.args.docs.now (omega (arith, c.loop-doc-test.false)))
