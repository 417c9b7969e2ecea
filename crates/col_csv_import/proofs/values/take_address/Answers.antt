use Rattle.std.proofs.Common.{sym}
use Rattle.std.proofs.lemmas.Result.{err_from_is_err_and}
use Rattle.col_model.specs.ColumnType as types
use Rattle.col_types.specs.Cells.{unsigned_cell}
use Rattle.col_writer_columns.specs.Columns.{plain_entry}
use Rattle.col_writer_columns.proofs.EntryLemmas.{plain-answers}
use Rattle.col_csv_import.proofs.ValueLemmas.{value-refused, value-taken}
use Rattle.col_csv_import.proofs.values.take_address.Goals as goal

pub returns-in_err-record : goal.returns-in_err-record
returns-in_err-record c =
    let p = err_from_is_err_and c.from_residual.result c.from_residual.ensures.1 in
    rw p.1 (value-refused types.ip c.args.row (plain_entry types.ip unsigned_cell c.args.column.now)
    (plain_entry types.ip unsigned_cell c.record.new.self) c.args.text.now (unsigned_cell c.in-Some.address)
    c.in_err-record.field-0.0 p.0 p.2 c.requires
    (plain-answers types.ip unsigned_cell c.args.column.now c.record.new.self c.args.row c.in-Some.address _
    c.in_err-record.ensures.column c.in_err-record.ensures.forced))

pub returns : goal.returns
returns c =
    value-taken types.ip c.args.row (plain_entry types.ip unsigned_cell c.args.column.now)
    (plain_entry types.ip unsigned_cell c.record.new.self) c.args.text.now (unsigned_cell c.in-Some.address)
    c.in_ok-record.field-0 c.requires
    (sym c.in-Some.ensures)
    (plain-answers types.ip unsigned_cell c.args.column.now c.record.new.self c.args.row c.in-Some.address _
    c.in_ok-record.ensures.column c.in_ok-record.ensures.forced)
