use Rattle.std.proofs.Common.{[], refl}
use Rattle.col_types.specs.Kinds.{kind_of}
use Rattle.col_print.proofs.PutsLemmas.{puts_then}
use Rattle.col_report.proofs.FoundLemmas.{no-counts-printed}
use Rattle.col_report.proofs.PutLemmas.{lines-put}
use Rattle.col_report.proofs.counts.put_no_counts.Goals as goal

pub returns : goal.returns
returns g c =
    lines-put _ _ _ _ (no-counts-printed [] _ _ c.args.name.now (kind_of c.args.column_type) refl refl _ refl)
    (puts_then _ _ _ _ _ (puts_then _ _ _ _ _ c.put.ensures c.put_name.ensures) c.put-2.ensures)
