use Rattle.std.proofs.Common.{◌≡◌, map, subst, sym}
use Rattle.col_model.specs.Keys.{FileKeys}
use Rattle.col_opened.specs.Opened.{AreOpen}
use Rattle.col_program.specs.Report.{report_of}
use Rattle.col_questions.specs.Questions.{question_of}
use Rattle.col_report.specs.Open.{report_text}
use Rattle.col_report.proofs.ReportLemmas.{report-answered, report-opened}
use Rattle.col_report.proofs.report.open_report.Goals as goal

pub returns-clause-answer : goal.returns-clause-answer
returns-clause-answer g c =
    let r = c.args.reader.now in
    let columns = c.in_ok-columns.columns in
    let questions = map question_of c.args.questions.now in
    let short = c.args.short in
    report-answered r.file.told r.keys columns (report_text c.num_docs.result short columns c.in-Ok.answers.items)
    (λ t report. report ≡ report_of t questions short) c.in_ok-columns.ensures.answer (λ t are.
    let kept = subst (λ (k : FileKeys). AreOpen k t columns) (sym c.in_ok-columns.ensures.reads.keys) are in
    report-opened c.num_docs.result c.open_all.new.reader.keys t columns c.args.questions.now short c.in-Ok.answers.items
    kept c.num_docs.ensures (c.in-Ok.ensures t kept))
