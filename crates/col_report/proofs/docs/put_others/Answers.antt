use Rattle.std.proofs.Common.{[], refl, arith}
use Rattle.col_print.proofs.PutsLemmas.{puts_none, puts_as, puts_then}
use Rattle.col_report.proofs.DocLemmas.{doc-more, docs-end}
use Rattle.col_report.proofs.docs.put_others.Goals as goal

pub loop-doc-init : goal.loop-doc-init
loop-doc-init g c = ([], puts_none _, refl)

pub loop-doc-preserved : goal.loop-doc-preserved
loop-doc-preserved g c =
    let before = c.loop-doc.invariant in (
      _,
      puts_then _ _ _ _ _ (puts_then _ _ _ _ _ before.1 c.put.ensures) c.put_number.ensures,
      doc-more _ _ _ _ c.args.docs.now c.loop-doc.doc-index _ (omega arith) refl before.2 refl refl,
    )

pub returns : goal.returns
returns g c =
    let before = c.loop-doc.invariant in
    puts_as _ _ _ _ (docs-end _ _ c.args.docs.now c.loop-doc.doc-index (omega arith) before.2) before.1
