use Rattle.col_report.proofs.CheckLemmas.{report-checked, printed-as}
use Rattle.col_report.proofs.check.report_on_check.Goals as goal

pub returns-clause-answer : goal.returns-clause-answer
returns-clause-answer g c =
    let r = c.args.reader.now in
    report-checked (λ v. v.items) c.in_ok-report.report r.file.told r.keys c.in_ok-whole.whole.items
    c.file_is_whole.ensures.told c.in_ok-whole.ensures.ok
    (printed-as r.keys c.check_columns.new.reader.keys c.in_ok-whole.whole.items c.deref.result.now
    c.in_ok-report.report.items c.in_ok-whole.ensures.kept.keys c.deref.ensures.value c.in_ok-report.ensures)
