use Rattle.std.proofs.Common.{arith, ◌≤◌}
use Rattle.col_writer_rows.proofs.DocumentLemmas.{step-below, step-next, step-end}
use Rattle.col_writer_rows.proofs.doc_list.rise_from.Goals as goal

pub returns-then-from-at : goal.returns-then-from-at
returns-then-from-at c =
    step-below c.args.least c.loop-doc.at c.loop-doc.doc-index c.from.result c.args.docs.now c.loop-doc.invariant
    c.loop-doc-test.true c.from.ensures c.if-from-at.true

pub loop-doc-preserved : goal.loop-doc-preserved
loop-doc-preserved c =
    let up : c.loop-doc.at ≤ c.from-at.result = omega arith in
    step-next c.args.least c.loop-doc.at c.loop-doc.doc-index c.from-at.result c.args.docs.now c.loop-doc.invariant
    c.loop-doc-test.true c.from-at.ensures up

pub returns : goal.returns
returns c = step-end c.args.least c.loop-doc.at c.loop-doc.doc-index c.args.docs.now c.loop-doc.invariant (omega arith)
