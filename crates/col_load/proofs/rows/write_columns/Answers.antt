use Rattle.std.proofs.Common.{None}
use Rattle.col_model.specs.Written.{written}
use Rattle.col_load.proofs.FileLemmas.{written_ok, written_err}
use Rattle.col_load.proofs.rows.write_columns.Goals as goal

pub returns-in-Ok : goal.returns-in-Ok
returns-in-Ok g c =
    written_ok (g.K.Sink.seen c.args.output.now) (g.K.Sink.seen c.serialize.new.sink) tt
    (written c.args.columns.now c.args.num_docs None) c.in-Ok.ensures

pub returns-in-Err : goal.returns-in-Err
returns-in-Err g c =
    written_err (g.K.Sink.seen c.args.output.now) (g.K.Sink.seen c.serialize.new.sink) c.in-Err.error c.from.result
    (written c.args.columns.now c.args.num_docs None) c.from.ensures c.in-Err.ensures
