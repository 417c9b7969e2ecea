use Rattle.std.proofs.Common.{[], refl}
use Rattle.col_print.proofs.PutsLemmas.{puts_then}
use Rattle.col_report.proofs.CountLemmas.{count-spelled}
use Rattle.col_report.proofs.PutLemmas.{bare, spelled, data-put}
use Rattle.col_report.proofs.counts.put_count.Goals as goal

pub returns : goal.returns
returns g c =
    data-put _ _ _ _ (count-spelled [] _ _ _ _ _ _ c.args.facet.now.count refl (spelled _ _) refl refl refl)
    (puts_then _ _ _ _ _ (puts_then _ _ _ _ _ (puts_then _ _ _ _ _
    (puts_then _ _ _ _ _ c.put.ensures (bare _ _ _ c.put_cell.ensures)) c.put-2.ensures) c.put_number.ensures)
    c.put-3.ensures)
