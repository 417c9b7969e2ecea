use Rattle.std.proofs.Common.{Err, arith}
use Rattle.std.proofs.lemmas.Result.{err_from_is_err_and}
use Rattle.col_indexer.proofs.RowWritingLemmas.{front-written, front-long, front-fits}
use Rattle.col_indexer.proofs.serialize_rows.serialize_front.Goals as goal

pub returns-in_err-serialize-clause-ok : goal.returns-in_err-serialize-clause-ok
returns-in_err-serialize-clause-ok g c =
    let p = err_from_is_err_and c.from_residual-in_err-serialize.result c.from_residual-in_err-serialize.ensures.1 in
    rw (p.1, p.2) (front-written _ _ _ _ (Err c.in_err-serialize.field-0.0) _ _ _ c.from.ensures
    c.in_ok-serialize_bytes.ensures c.in_err-serialize.ensures.ok)

pub overflow_add-result : goal.overflow_add-result
overflow_add-result g c = let fits = front-fits _ _ c.num_bytes.ensures in omega arith

pub returns-clause-ok : goal.returns-clause-ok
returns-clause-ok g c =
    front-written _ _ _ _ _ _ _ _ c.from.ensures c.in_ok-serialize_bytes.ensures c.in_ok-serialize.ensures.ok

pub returns-clause-length : goal.returns-clause-length
returns-clause-length g c = front-long c.args.form _ _ _ c.from.ensures c.num_bytes.ensures
