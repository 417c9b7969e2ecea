use Rattle.std.proofs.Common.{[], refl}
use Rattle.col_print.proofs.PutsLemmas.{puts_then}
use Rattle.col_report.proofs.FoundLemmas.{docs-printed}
use Rattle.col_report.proofs.PutLemmas.{bare, spelled, lines-put}
use Rattle.col_report.proofs.answers.put_docs_line.Goals as goal

pub returns : goal.returns
returns g c =
    lines-put _ _ _ _ (docs-printed [] _ _ _ c.args.short c.args.docs.now refl (spelled _ _) refl)
    (puts_then _ _ _ _ _ (puts_then _ _ _ _ _ c.put.ensures (bare _ _ _ c.put_docs.ensures)) c.put-2.ensures)
