use Rattle.std.proofs.Common.{[], refl}
use Rattle.col_types.specs.Kinds.{kind_of}
use Rattle.col_print.proofs.PutsLemmas.{puts_then}
use Rattle.col_report.proofs.FoundLemmas.{counts-printed}
use Rattle.col_report.proofs.PutLemmas.{bare, spelled, lines-put}
use Rattle.col_report.proofs.counts.put_facets.Goals as goal

pub returns : goal.returns
returns g c =
    lines-put _ _ _ _ (counts-printed [] _ _ c.args.name.now (kind_of c.args.column_type) refl refl _ _ _ (spelled _ _) refl)
    (puts_then _ _ _ _ _ (puts_then _ _ _ _ _
    (puts_then _ _ _ _ _ c.put.ensures c.put_name.ensures) (bare _ _ _ c.put_list.ensures)) c.put-2.ensures)
