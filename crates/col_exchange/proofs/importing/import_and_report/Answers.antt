use Rattle.std.proofs.lemmas.Result.{err_from_is_err_and}
use Rattle.col_csv.specs.CsvTable.{table_of_csv}
use Rattle.col_exchange.proofs.ImportLemmas.{both-made, file-only}
use Rattle.col_exchange.proofs.importing.import_and_report.Goals as goal

pub returns-in_err-bytes : goal.returns-in_err-bytes
returns-in_err-bytes c =
    let p = err_from_is_err_and c.from_residual.result c.from_residual.ensures.1 in
    rw p.1 (file-only (table_of_csv c.args.text.now) _ p.0 p.2 c.in_err-bytes.ensures)

pub returns-in-Ok : goal.returns-in-Ok
returns-in-Ok c = both-made (table_of_csv c.args.text.now) c.in_ok-bytes.bytes c.in-Ok.report c.in_ok-bytes.ensures c.in-Ok.ensures
