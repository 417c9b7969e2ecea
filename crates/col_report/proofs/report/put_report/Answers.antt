use Rattle.col_print.proofs.PutsLemmas.{puts_then}
use Rattle.col_report.proofs.ReportLemmas.{report-put}
use Rattle.col_report.proofs.PutLemmas.{bare-lines}
use Rattle.col_report.proofs.report.put_report.Goals as goal

pub returns : goal.returns
returns g c =
    report-put _ _ c.args.num_rows c.args.columns.now c.columns.result.now c.args.answers.now c.args.short c.columns.ensures
    (puts_then _ _ _ _ _ (puts_then _ _ _ _ _
    (bare-lines _ _ _ c.put_rows_line.ensures) (bare-lines _ _ _ c.put_columns.ensures)) c.put.ensures)
