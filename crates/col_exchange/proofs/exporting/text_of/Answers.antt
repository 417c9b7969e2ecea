use Rattle.std.proofs.Common.{◌∙◌}
use Rattle.std.proofs.lemmas.Result.{err_from_is_err_and}
use Rattle.col_exchange.proofs.ExportLemmas.{text-made, text-refused}
use Rattle.col_exchange.proofs.exporting.text_of.Goals as goal

pub returns-in_err-export_csv-clause-answer : goal.returns-in_err-export_csv-clause-answer
returns-in_err-export_csv-clause-answer g c =
    let p = err_from_is_err_and c.from_residual.result c.from_residual.ensures.1 in
    rw (p.1, p.2) (text-refused c.args.reader.now.file c.export_csv.new.reader.file c.new-text.result c.export_csv.new.output
    c.in_err-export_csv.field-0.0 c.in_err-export_csv.ensures.answer)

pub returns-in-Ok-clause-answer : goal.returns-in-Ok-clause-answer
returns-in-Ok-clause-answer g c =
    text-made c.args.reader.now.file.told c.new-text.result c.export_csv.new.output c.in-Ok.bytes c.new-text.ensures
    (c.in-Ok.ensures.ok ∙ c.into_bytes.ensures) c.in_ok-export_csv.ensures.answer
