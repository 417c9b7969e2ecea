use Rattle.std.proofs.Common.{[], refl}
use Rattle.col_questions.specs.Finds as finds
use Rattle.col_print.proofs.PutsLemmas.{puts_then}
use Rattle.col_report.proofs.FoundLemmas.{found-printed}
use Rattle.col_report.proofs.PutLemmas.{bare, spelled, lines-put}
use Rattle.col_report.proofs.found.put_found.Goals as goal

pub returns : goal.returns
returns g c =
    lines-put _ _ _ _ (found-printed [] _ _ _ _ (finds.find_of c.args.find.now) c.deref.ensures c.column_type.ensures
    refl refl _ _ _ (spelled _ _) refl)
    (puts_then _ _ _ _ _ (puts_then _ _ _ _ _
    (puts_then _ _ _ _ _ c.put.ensures c.put_name.ensures) (bare _ _ _ c.put_docs.ensures)) c.put-2.ensures)
