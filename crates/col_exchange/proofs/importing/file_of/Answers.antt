use Rattle.std.proofs.Common.{◌∙◌}
use Rattle.std.proofs.lemmas.Result.{err_from_is_err_and}
use Rattle.col_csv.specs.CsvTable.{table_of_csv}
use Rattle.col_exchange.proofs.ImportLemmas.{file-made, file-refused}
use Rattle.col_exchange.proofs.importing.file_of.Goals as goal

pub returns-in_err-import_text : goal.returns-in_err-import_text
returns-in_err-import_text c =
    let p = err_from_is_err_and c.from_residual.result c.from_residual.ensures.1 in
    rw (p.1, p.2) (file-refused (table_of_csv c.args.text.now) c.new-file.result c.import_text.new.output _
    c.in_err-import_text.ensures.answer)

pub returns-in-Ok : goal.returns-in-Ok
returns-in-Ok c =
    file-made (table_of_csv c.args.text.now) c.new-file.result c.import_text.new.output c.in-Ok.bytes c.new-file.ensures
    (c.in-Ok.ensures.ok ∙ c.into_bytes.ensures) c.in_ok-import_text.ensures.answer
