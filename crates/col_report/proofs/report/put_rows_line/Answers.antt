use Rattle.col_print.proofs.PutsLemmas.{puts_then}
use Rattle.col_report.proofs.ReportLemmas.{rows-put}
use Rattle.col_report.proofs.report.put_rows_line.Goals as goal

pub returns : goal.returns
returns g c = rows-put _ _ c.args.count (puts_then _ _ _ _ _ (puts_then _ _ _ _ _ c.put.ensures c.put_number.ensures) c.put-2.ensures)
