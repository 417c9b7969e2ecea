use Rattle.col_print.proofs.PutsLemmas.{same_place}
use Rattle.col_report.proofs.report.put_through.Goals as goal

pub returns-clause-same_reference : goal.returns-clause-same_reference
returns-clause-same_reference g c = same_place _ _ _ c.put_report.ensures
