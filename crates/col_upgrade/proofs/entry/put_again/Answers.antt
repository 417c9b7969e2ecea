use Rattle.std.proofs.Common.{ap}
use Rattle.std.proofs.lemmas.Result.{err_from_is_err_and}
use Rattle.col_model.specs.ColumnType.{ColumnType}
use Rattle.col_model.specs.Keys.{Key}
use Rattle.col_keys.specs.KeyTables.{key_at}
use Rattle.col_file.specs.Columns.{content_at}
use Rattle.col_upgrade.proofs.PutLemmas.{grows-none, put-answer, read-refused}
use Rattle.col_upgrade.proofs.entry.put_again.Goals as goal

pub returns-in_err-bytes-clause-answer : goal.returns-in_err-bytes-clause-answer
returns-in_err-bytes-clause-answer g c =
    let p = err_from_is_err_and c.from_residual.result c.from_residual.ensures.1 in
    rw (p.1, p.2) (read-refused c.args.reader.now.file c.entry_again.new.reader.file (g.K.Sink.seen c.args.output.now)
    c.in_err-bytes.field-0.0 (content_at c.args.reader.now.keys c.args.handle.now) c.in_err-bytes.ensures.answer)

pub returns-in_err-bytes-clause-kept : goal.returns-in_err-bytes-clause-kept
returns-in_err-bytes-clause-kept g c = c.in_err-bytes.ensures.kept

pub returns-in_err-bytes-clause-grown : goal.returns-in_err-bytes-clause-grown
returns-in_err-bytes-clause-grown g c = grows-none (g.K.Sink.seen c.args.output.now)

pub returns-clause-answer : goal.returns-clause-answer
returns-clause-answer g c =
    let key : ColumnType → Key = λ t. record { name = c.args.name.now; column_type = t } in
    put-answer c.args.reader.now c.entry_again.new.reader c.args.columns.now c.put_column.new.self
    (g.K.Sink.seen c.args.output.now) (g.K.Sink.seen c.put_column.new.sink) c.put_column.result c.args.name.now
    c.args.handle.now (key_at c.args.name.now c.column_type.result) c.in_ok-bytes.bytes (ap key c.column_type.ensures)
    c.put_column.ensures c.in_ok-bytes.ensures.answer

pub returns-clause-kept : goal.returns-clause-kept
returns-clause-kept g c = c.in_ok-bytes.ensures.kept

pub returns-clause-grown : goal.returns-clause-grown
returns-clause-grown g c = c.put_column.ensures.written.grown

pub returns-clause-later : goal.returns-clause-later
returns-clause-later g c = c.put_column.ensures.written.later
