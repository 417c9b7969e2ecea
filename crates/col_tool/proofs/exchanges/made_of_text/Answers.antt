use Rattle.std.proofs.lemmas.Result.{err_from_is_err_and}
use Rattle.col_csv.specs.CsvTable.{table_of_csv}
use Rattle.col_tool.proofs.ImportLemmas.{text-among, text-made, text-refused}
use Rattle.col_tool.proofs.exchanges.made_of_text.Goals as goal

pub returns-in_err-made-clause-made : goal.returns-in_err-made-clause-made
returns-in_err-made-clause-made c =
    let p = err_from_is_err_and c.from_residual.result c.from_residual.ensures.1 in
    rw (p.1, p.2) (text-refused (table_of_csv c.args.text.now) _ c.in_err-made.ensures)

pub returns-in_err-made-clause-among : goal.returns-in_err-made-clause-among
returns-in_err-made-clause-among c =
    let p = err_from_is_err_and c.from_residual.result c.from_residual.ensures.1 in
    rw (p.1, p.2) (text-among (table_of_csv c.args.text.now) _ c.in_err-made.ensures)

pub returns-clause-made : goal.returns-clause-made
returns-clause-made c = text-made (table_of_csv c.args.text.now) c.in_ok-made.made c.in_ok-made.ensures
