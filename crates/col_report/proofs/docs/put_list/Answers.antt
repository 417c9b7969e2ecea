use Rattle.std.proofs.Common.{[], refl}
use Rattle.col_print.proofs.PutsLemmas.{puts_then}
use Rattle.col_report.proofs.DocLemmas.{none-spelled, list-spelled, first-and-others}
use Rattle.col_report.proofs.PutLemmas.{data-put}
use Rattle.col_report.proofs.docs.put_list.Goals as goal

pub returns-in_default : goal.returns-in_default
returns-in_default g c = data-put _ _ _ _ (none-spelled [] _ c.args.docs.now c.in_default.len_below refl) c.put.ensures

pub returns : goal.returns
returns g c =
    data-put _ _ _ _ (list-spelled [] _ _ _ _ _ _ c.args.docs.now (first-and-others c.args.docs.now c.in-len1-up.len_at_least)
    refl refl refl refl)
    (puts_then _ _ _ _ _ (puts_then _ _ _ _ _
    (puts_then _ _ _ _ _ c.put-2.ensures c.put_number.ensures) c.put_others.ensures) c.put-3.ensures)
