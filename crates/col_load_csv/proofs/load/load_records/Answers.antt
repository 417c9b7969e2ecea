use Rattle.std.proofs.Common.{Err, map}
use Rattle.std.proofs.lemmas.Result.{err_from_is_err_and}
use Rattle.col_load_csv.specs.Documents.{documents_behind}
use Rattle.col_load_csv.specs.Read.{column_read}
use Rattle.col_load_csv.proofs.LoadedLemmas.{stop_loads, taken_loads}
use Rattle.col_load_csv.proofs.load.load_records.Goals as goal

pub returns-in_err-taken-clause-file : goal.returns-in_err-taken-clause-file
returns-in_err-taken-clause-file g c =
    let p = err_from_is_err_and c.from_residual.result c.from_residual.ensures.1 in
    rw (p.1, p.2) (stop_loads (g.K.Sink.seen c.args.output.now) c.in_err-taken.field-0.0
    (documents_behind (map column_read c.args.columns.now) c.args.skips c.args.text.now) c.in_err-taken.ensures.err)

pub returns-in_err-write-clause-file : goal.returns-in_err-write-clause-file
returns-in_err-write-clause-file g c =
    let p = err_from_is_err_and c.from_residual-in_err-write.result c.from_residual-in_err-write.ensures.1 in
    rw (p.1, p.2) (taken_loads (g.K.Sink.seen c.args.output.now) (g.K.Sink.seen c.write.new.output) (Err c.in_err-write.field-0.0)
    c.in_ok-taken.taken (documents_behind (map column_read c.args.columns.now) c.args.skips c.args.text.now) c.in_ok-taken.ensures.ok
    c.in_err-write.ensures)

pub returns-clause-file : goal.returns-clause-file
returns-clause-file g c =
    taken_loads (g.K.Sink.seen c.args.output.now) (g.K.Sink.seen c.write.new.output) _ c.in_ok-taken.taken
    (documents_behind (map column_read c.args.columns.now) c.args.skips c.args.text.now) c.in_ok-taken.ensures.ok c.in_ok-write.ensures
