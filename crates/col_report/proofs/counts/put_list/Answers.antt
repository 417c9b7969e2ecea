use Rattle.std.proofs.Common.{[], refl}
use Rattle.col_types.specs.Kinds.{kind_of}
use Rattle.col_print.proofs.PutsLemmas.{puts_then}
use Rattle.col_report.specs.Counted.{shown_count}
use Rattle.col_report.proofs.CountLemmas.{none-listed, listed-spelled, first-listed}
use Rattle.col_report.proofs.PutLemmas.{bare, spelled, data-put}
use Rattle.col_report.proofs.counts.put_list.Goals as goal

pub returns-in_default : goal.returns-in_default
returns-in_default g c =
    data-put _ _ _ _ (none-listed (shown_count (kind_of c.args.column_type)) [] _ c.args.facets.now c.in_default.len_below refl)
    c.put.ensures

pub returns : goal.returns
returns g c =
    data-put _ _ _ _ (listed-spelled (shown_count (kind_of c.args.column_type)) [] _ _ _ _ c.first-item.result _ c.args.facets.now
    (first-listed c.args.facets.now c.first-item.result c.in-len1-up.len_at_least c.first-item.is)
    refl (spelled _ _) refl refl)
    (puts_then _ _ _ _ _ (puts_then _ _ _ _ _ (puts_then _ _ _ _ _
    c.put-2.ensures (bare _ _ _ c.put_count.ensures)) c.put_others.ensures) c.put-3.ensures)
