use Rattle.std.proofs.Common.{[], refl}
use Rattle.col_print.proofs.PutsLemmas.{puts_then}
use Rattle.col_report.proofs.PutLemmas.{spelled, data-put}
use Rattle.col_report.proofs.TextLemmas.{digits-spelled}
use Rattle.col_report.proofs.term_cells.put_digits.Goals as goal

pub returns : goal.returns
returns g c =
    data-put _ _ _ _ (digits-spelled [] _ _ _ c.args.term.now refl (spelled _ _) refl)
    (puts_then _ _ _ _ _ (puts_then _ _ _ _ _ c.put.ensures c.put_hex.ensures) c.put-2.ensures)
