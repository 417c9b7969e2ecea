use Rattle.std.proofs.Common.{map}
use Rattle.std.proofs.lemmas.Result.{err_from_is_err_and}
use Rattle.col_csv.specs.CsvTable.{table_of_csv}
use Rattle.col_csv_import.specs.Columns.{slotted}
use Rattle.col_csv_import.proofs.ImportLemmas.{front-kept, table-added, table-refused}
use Rattle.col_csv_import.proofs.import.import_text.Goals as goal

pub returns-in_err-write_table-clause-answer : goal.returns-in_err-write_table-clause-answer
returns-in_err-write_table-clause-answer g c =
    let p = err_from_is_err_and c.from_residual-in_err-write_table.result c.from_residual-in_err-write_table.ensures.1 in
    rw p.1 (table-refused (g.K.Sink.seen c.args.output.now) (g.K.Sink.seen c.write_table.new.output)
    (map slotted c.in_ok-table.table.columns.items) c.in_ok-table.table.row_count (table_of_csv c.args.text.now)
    c.in_ok-table.ensures c.in_err-write_table.field-0.0 p.0 p.2 c.in_err-write_table.ensures)

pub returns-in_err-write_table-clause-sink : goal.returns-in_err-write_table-clause-sink
returns-in_err-write_table-clause-sink g c =
    front-kept (g.K.Sink.seen c.args.output.now) (g.K.Sink.seen c.write_table.new.output)
    (map slotted c.in_ok-table.table.columns.items) c.in_ok-table.table.row_count (table_of_csv c.args.text.now)
    c.in_ok-table.ensures _ c.in_err-write_table.ensures

pub returns-clause-answer : goal.returns-clause-answer
returns-clause-answer g c =
    table-added (g.K.Sink.seen c.args.output.now) (g.K.Sink.seen c.write_table.new.output)
    (map slotted c.in_ok-table.table.columns.items) c.in_ok-table.table.row_count (table_of_csv c.args.text.now)
    c.in_ok-table.ensures _ c.in_ok-write_table.ensures

pub returns-clause-sink : goal.returns-clause-sink
returns-clause-sink g c =
    front-kept (g.K.Sink.seen c.args.output.now) (g.K.Sink.seen c.write_table.new.output)
    (map slotted c.in_ok-table.table.columns.items) c.in_ok-table.table.row_count (table_of_csv c.args.text.now)
    c.in_ok-table.ensures _ c.in_ok-write_table.ensures
