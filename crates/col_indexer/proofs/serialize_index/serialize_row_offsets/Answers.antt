use Rattle.std.proofs.Common.{Err, arith}
use Rattle.std.proofs.lemmas.Result.{err_from_is_err_and}
use Rattle.col_indexer.proofs.WritingLemmas.{offsets-stopped, row_offsets-written, row_offsets-long, row_offsets-fits}
use Rattle.col_indexer.proofs.serialize_index.serialize_row_offsets.Goals as goal

pub returns-in_err-starts_len-clause-ok : goal.returns-in_err-starts_len-clause-ok
returns-in_err-starts_len-clause-ok g c =
    let p = err_from_is_err_and c.from_residual-in_err-starts_len.result c.from_residual-in_err-starts_len.ensures.1 in
    rw (p.1, p.2) (offsets-stopped _ _ _ _ _ _ c.in_ok-rows_len.ensures.ok c.in_err-starts_len.ensures.ok)

pub returns-in_err-serialize_bytes-clause-ok : goal.returns-in_err-serialize_bytes-clause-ok
returns-in_err-serialize_bytes-clause-ok g c =
    let p = err_from_is_err_and c.from_residual-in_err-serialize_bytes.result c.from_residual-in_err-serialize_bytes.ensures.1 in
    rw (p.1, p.2) (row_offsets-written _ _ _ _ _ (Err c.in_err-serialize_bytes.field-0.0) _ _ _
    c.in_ok-rows_len.ensures.length c.to_le_bytes-end.ensures c.in_ok-rows_len.ensures.ok
    c.in_ok-starts_len.ensures.ok c.in_err-serialize_bytes.ensures)

pub overflow_add-result : goal.overflow_add-result
overflow_add-result g c =
    omega (
      arith,
      row_offsets-fits _ _ _ c.requires.index c.requires.limit c.in_ok-rows_len.ensures.length
          c.in_ok-starts_len.ensures.length,
    )

pub overflow_add-result-2 : goal.overflow_add-result-2
overflow_add-result-2 g c =
    omega (
      arith,
      row_offsets-fits _ _ _ c.requires.index c.requires.limit c.in_ok-rows_len.ensures.length
          c.in_ok-starts_len.ensures.length,
    )

pub returns-clause-ok : goal.returns-clause-ok
returns-clause-ok g c =
    row_offsets-written _ _ _ _ _ _ _ _ _ c.in_ok-rows_len.ensures.length c.to_le_bytes-end.ensures
    c.in_ok-rows_len.ensures.ok c.in_ok-starts_len.ensures.ok c.in_ok-serialize_bytes.ensures

pub returns-clause-length : goal.returns-clause-length
returns-clause-length g c = row_offsets-long _ _ _ c.in_ok-rows_len.ensures.length c.in_ok-starts_len.ensures.length
