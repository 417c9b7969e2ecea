use Rattle.std.proofs.lemmas.Result.{err_from_is_err_and}
use Rattle.col_common.proofs.SerializingLemmas.{serializes-stopped}
use Rattle.col_common.proofs.OnOkLemmas.{on_ok-always}
use Rattle.col_column.proofs.SerializeNumberLemmas.{numbers-written, appended-fit, length-behind}
use Rattle.col_column.proofs.serialize.serialize_numbers_behind.Goals as goal

pub returns-in_err-serialize_u64_based_column_values-clause-ok : goal.returns-in_err-serialize_u64_based_column_values-clause-ok
returns-in_err-serialize_u64_based_column_values-clause-ok g c =
    let p = err_from_is_err_and c.from_residual.result c.from_residual.ensures.1 in
    rw (p.1, p.2) (serializes-stopped _ _ _ _ _ (numbers-written _ _ _ _ _ _ c.requires.bitpacked c.requires.few
    c.in_err-serialize_u64_based_column_values.ensures.ok))

pub returns-clause-ok : goal.returns-clause-ok
returns-clause-ok g c =
    length-behind _ _ _ _ _ c.args.index_len _ _ c.to_le_bytes.ensures
    (numbers-written _ _ _ _ _ _ c.requires.bitpacked c.requires.few
    c.in_ok-serialize_u64_based_column_values.ensures.ok) c.serialize_bytes.ensures

pub returns-clause-fit : goal.returns-clause-fit
returns-clause-fit g c =
    on_ok-always _ (appended-fit (g.K.Sink.seen c.args.sink.now)
    (g.K.Sink.seen c.serialize_u64_based_column_values.new.sink) _
    c.in_ok-serialize_u64_based_column_values.ensures.list)
