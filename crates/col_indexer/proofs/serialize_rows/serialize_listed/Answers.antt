use Rattle.std.proofs.Common.{Err, arith}
use Rattle.std.proofs.lemmas.Result.{err_from_is_err_and}
use Rattle.col_indexer.specs.Spelling.{row_set_by}
use Rattle.col_indexer.proofs.RowWritingLemmas.{listed-written, listed-long, listed-fits}
use Rattle.col_indexer.proofs.serialize_rows.serialize_listed.Goals as goal

pub returns-in_err-len-clause-ok : goal.returns-in_err-len-clause-ok
returns-in_err-len-clause-ok g c =
    let p = err_from_is_err_and c.from_residual-in_err-len.result c.from_residual-in_err-len.ensures.1 in
    rw (p.1, p.2) (listed-written _ _ _ _ (Err c.in_err-len.field-0.0) (row_set_by c.args.num_rows c.args.rows.now)
    c.in_ok-front_len.ensures.ok c.in_err-len.ensures.ok)

pub overflow_add-result : goal.overflow_add-result
overflow_add-result g c =
    let fits = listed-fits _ _ (row_set_by c.args.num_rows c.args.rows.now) c.requires c.in_ok-front_len.ensures.length
    c.in_ok-len.ensures.length in
    omega arith

pub returns-clause-ok : goal.returns-clause-ok
returns-clause-ok g c =
    listed-written _ _ _ _ _ (row_set_by c.args.num_rows c.args.rows.now) c.in_ok-front_len.ensures.ok
    c.in_ok-len.ensures.ok

pub returns-clause-length : goal.returns-clause-length
returns-clause-length g c =
    listed-long _ _ (row_set_by c.args.num_rows c.args.rows.now) c.in_ok-front_len.ensures.length
    c.in_ok-len.ensures.length
