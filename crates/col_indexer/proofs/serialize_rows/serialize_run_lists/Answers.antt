use Rattle.std.proofs.Common.{Err, arith}
use Rattle.std.proofs.lemmas.Result.{err_from_is_err_and}
use Rattle.col_indexer.proofs.RowWritingLemmas.{run_lists-stopped, run_lists-written, run_lists-long, run_lists-fit, starts-fit, lengths-fit}
use Rattle.col_indexer.proofs.serialize_rows.serialize_run_lists.Goals as goal

pub serialize_list-requires : goal.serialize_list-requires
serialize_list-requires g c = starts-fit _ _ _ c.starts-starts.ensures c.lengths-lengths.ensures c.requires

pub serialize_list-requires-2 : goal.serialize_list-requires-2
serialize_list-requires-2 g c = lengths-fit _ _ _ c.starts-starts.ensures c.lengths-lengths.ensures c.requires

pub returns-in_err-lengths_len-clause-ok : goal.returns-in_err-lengths_len-clause-ok
returns-in_err-lengths_len-clause-ok g c =
    let p = err_from_is_err_and c.from_residual-in_err-lengths_len.result c.from_residual-in_err-lengths_len.ensures.1 in
    rw (p.1, p.2) (run_lists-stopped _ _ _ c.starts-starts.ensures c.lengths-lengths.ensures _ _ _ _ _
    c.in_ok-starts_len.ensures.ok c.in_err-lengths_len.ensures.ok)

pub returns-in_err-serialize_bytes-clause-ok : goal.returns-in_err-serialize_bytes-clause-ok
returns-in_err-serialize_bytes-clause-ok g c =
    let p = err_from_is_err_and c.from_residual-in_err-serialize_bytes.result c.from_residual-in_err-serialize_bytes.ensures.1 in
    rw (p.1, p.2) (run_lists-written _ _ _ c.starts-starts.ensures c.lengths-lengths.ensures _ _ _ _ _
    (Err c.in_err-serialize_bytes.field-0.0) _ _ c.in_ok-starts_len.ensures.length c.to_le_bytes-end.ensures
    c.in_ok-starts_len.ensures.ok c.in_ok-lengths_len.ensures.ok c.in_err-serialize_bytes.ensures)

pub overflow_add-result : goal.overflow_add-result
overflow_add-result g c =
    let fits = run_lists-fit _ _ _ c.starts-starts.ensures c.lengths-lengths.ensures _ _ c.requires
    c.in_ok-starts_len.ensures.length c.in_ok-lengths_len.ensures.length in
    omega arith

pub overflow_add-result-2 : goal.overflow_add-result-2
overflow_add-result-2 g c =
    let fits = run_lists-fit _ _ _ c.starts-starts.ensures c.lengths-lengths.ensures _ _ c.requires
    c.in_ok-starts_len.ensures.length c.in_ok-lengths_len.ensures.length in
    omega arith

pub returns-clause-ok : goal.returns-clause-ok
returns-clause-ok g c =
    run_lists-written _ _ _ c.starts-starts.ensures c.lengths-lengths.ensures _ _ _ _ _ _ _ _
    c.in_ok-starts_len.ensures.length c.to_le_bytes-end.ensures c.in_ok-starts_len.ensures.ok
    c.in_ok-lengths_len.ensures.ok c.in_ok-serialize_bytes.ensures

pub returns-clause-length : goal.returns-clause-length
returns-clause-length g c =
    run_lists-long _ _ _ c.starts-starts.ensures c.lengths-lengths.ensures _ _ c.in_ok-starts_len.ensures.length
    c.in_ok-lengths_len.ensures.length
