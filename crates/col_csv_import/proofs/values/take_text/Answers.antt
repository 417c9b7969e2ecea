use Rattle.std.proofs.lemmas.Result.{err_from_is_err_and}
use Rattle.col_model.specs.ColumnType as types
use Rattle.col_model.specs.Table.{text}
use Rattle.col_writer_columns.specs.Columns.{text_entry}
use Rattle.col_writer_columns.proofs.EntryLemmas.{text-answers}
use Rattle.col_csv_import.proofs.ValueLemmas.{text-spelled, value-refused, value-taken}
use Rattle.col_csv_import.proofs.values.take_text.Goals as goal

pub returns-in_err-record_bytes : goal.returns-in_err-record_bytes
returns-in_err-record_bytes c =
    let p = err_from_is_err_and c.from_residual.result c.from_residual.ensures.1 in
    rw p.1 (value-refused types.str c.args.row (text_entry types.str c.args.column.now)
    (text_entry types.str c.record_bytes.new.self) c.args.text.now (text c.args.text.now) c.in_err-record_bytes.field-0.0 p.0 p.2
    c.requires (text-answers types.str c.args.column.now c.record_bytes.new.self c.args.row c.args.text.now _
    c.in_err-record_bytes.ensures.values c.in_err-record_bytes.ensures.forced c.in_err-record_bytes.ensures.sorts))

pub returns : goal.returns
returns c =
    value-taken types.str c.args.row (text_entry types.str c.args.column.now) (text_entry types.str c.record_bytes.new.self)
    c.args.text.now (text c.args.text.now) c.in_ok-record_bytes.field-0 c.requires (text-spelled c.args.text.now)
    (text-answers types.str c.args.column.now c.record_bytes.new.self c.args.row c.args.text.now _ c.in_ok-record_bytes.ensures.values
    c.in_ok-record_bytes.ensures.forced c.in_ok-record_bytes.ensures.sorts)
