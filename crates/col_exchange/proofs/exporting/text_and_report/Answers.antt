use Rattle.std.proofs.lemmas.Result.{err_from_is_err_and}
use Rattle.col_exchange.proofs.ExportLemmas.{both-made, report-refused, text-only}
use Rattle.col_exchange.proofs.exporting.text_and_report.Goals as goal

pub returns-in_err-bytes-clause-answer : goal.returns-in_err-bytes-clause-answer
returns-in_err-bytes-clause-answer g c =
    let p = err_from_is_err_and c.from_residual.result c.from_residual.ensures.1 in
    rw p.1 (text-only c.args.reader.now.file c.text_of.new.reader.file _ p.0 p.2 c.in_err-bytes.ensures.answer)

pub returns-in_err-report-clause-answer : goal.returns-in_err-report-clause-answer
returns-in_err-report-clause-answer g c =
    let p = err_from_is_err_and c.from_residual-in_err-report.result c.from_residual-in_err-report.ensures.1 in
    rw p.1 (report-refused c.args.reader.now.file c.text_of.new.reader.file c.short_report.new.reader.file
    _ _ p.0 p.2 c.in_ok-bytes.ensures.kept.file c.in_err-report.ensures.answer)

pub returns-clause-answer : goal.returns-clause-answer
returns-clause-answer g c =
    both-made c.args.reader.now.file c.text_of.new.reader.file c.short_report.new.reader.file _ c.in_ok-bytes.bytes
    c.in_ok-report.report c.in_ok-bytes.ensures.kept.file c.in_ok-bytes.ensures.answer c.in_ok-report.ensures.answer
