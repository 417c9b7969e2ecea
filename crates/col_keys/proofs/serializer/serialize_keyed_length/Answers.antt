use Rattle.std.proofs.lemmas.Result.{err_from_is_err_and}
use Rattle.col_common.proofs.SerializingLemmas.{serializes-as, serializes-refused, serializes-then}
use Rattle.col_model.specs.Keys.{Key}
use Rattle.col_keys.specs.KeyTables.{key_at}
use Rattle.col_keys.proofs.EndLemmas.{keyed_length-parts}
use Rattle.col_keys.proofs.serializer.serialize_keyed_length.Goals as goal

pub returns-in_err-serialize_bytes : goal.returns-in_err-serialize_bytes
returns-in_err-serialize_bytes g c =
    let r = c.from_residual-in_err-serialize_bytes in
    let p = err_from_is_err_and r.result r.ensures.1 in
    rw (p.1, p.2) (serializes-refused _ _ _ _ _ _ _ _ c.in_ok-serialize.ensures.ok c.in_err-serialize_bytes.ensures)

pub returns-in_err-serialize_bytes-2 : goal.returns-in_err-serialize_bytes-2
returns-in_err-serialize_bytes-2 g c =
    let r = c.from_residual-in_err-serialize_bytes-2 in
    let p = err_from_is_err_and r.result r.ensures.1 in
    rw (p.1, p.2) (serializes-refused _ _ _ _ _ _ _ _
    (serializes-then _ _ _ _ _ _ _ c.in_ok-serialize.ensures.ok c.in_ok-serialize_bytes.ensures)
    c.in_err-serialize_bytes-2.ensures)

pub returns : goal.returns
returns g c =
    let key : Key = key_at c.args.name.now c.args.column_type in
    let whole = keyed_length-parts key c.as_bytes.result.now c.to_code.result c.args.num_bytes c.as_bytes.ensures.value c.to_code.ensures in
    let front = serializes-then _ _ _ _ _ _ _ c.in_ok-serialize.ensures.ok c.in_ok-serialize_bytes.ensures in
    serializes-as _ _ _ _ _ (serializes-then _ _ _ _ _ _ _
    (serializes-then _ _ _ _ _ _ _ front c.in_ok-serialize_bytes-2.ensures) c.serialize-2.ensures.ok) whole
