use Rattle.std.proofs.Common.{arith}
use Rattle.std.proofs.lemmas.Result.{err_from_is_err_and}
use Rattle.col_common.proofs.SerializingLemmas.{serializes-as, serializes-refused, serializes-then}
use Rattle.col_keys.specs.Put.{PutColumns}
use Rattle.col_common.proofs.OnOkLemmas.{on_ok-always}
use Rattle.col_keys.proofs.EndLemmas.{end-parts, end-short}
use Rattle.col_keys.proofs.serializer.ColumnarSerializer.serialize_end.Goals as goal

pub returns-in_err-serialize_bytes-clause-ok : goal.returns-in_err-serialize_bytes-clause-ok
returns-in_err-serialize_bytes-clause-ok g c =
    let r = c.from_residual-in_err-serialize_bytes in
    let p = err_from_is_err_and r.result r.ensures.1 in
    rw (p.1, p.2) (serializes-refused _ _ _ _ _ _ _ _ c.in_ok-serialize.ensures.ok c.in_err-serialize_bytes.ensures)

pub returns-clause-ok : goal.returns-clause-ok
returns-clause-ok g c =
    let columns : PutColumns = record { count = c.self.inside.num_columns; table = c.self.inside.table } in
    let front = serializes-then _ _ _ _ _ _ _ c.in_ok-serialize.ensures.ok c.in_ok-serialize_bytes.ensures in
    rw (← c.self.view_is) (serializes-as _ _ _ _ _ (serializes-then _ _ _ _ _ _ _ front c.serialize_footer.ensures)
    (end-parts columns c.args.num_rows c.in-Some.table_len c.as_slice-entries.result.now c.as_slice-entries.ensures c.in-Some.ensures))

pub returns-clause-short : goal.returns-clause-short
returns-clause-short g c =
    let columns : PutColumns = record { count = c.self.inside.num_columns; table = c.self.inside.table } in
    rw (← c.self.view_is) (on_ok-always c.serialize_footer.result (end-short columns c.in-Some.table_len
    c.as_slice-entries.result.now c.as_slice-entries.ensures c.in-Some.ensures (omega arith)))
