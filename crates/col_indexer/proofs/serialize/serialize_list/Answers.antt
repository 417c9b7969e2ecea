use Rattle.std.proofs.Common.{arith}
use Rattle.std.proofs.lemmas.Result.{err_from_is_err_and}
use Rattle.col_indexer.proofs.WritingLemmas.{list-written, list-long, list-fits}
use Rattle.col_indexer.proofs.serialize.serialize_list.Goals as goal

pub returns-in_err-len-clause-ok : goal.returns-in_err-len-clause-ok
returns-in_err-len-clause-ok g c =
    let p = err_from_is_err_and c.from_residual.result c.from_residual.ensures.1 in
    rw (p.1, p.2) (list-written _ _ _ _ c.requires c.in_err-len.ensures.ok)

pub overflow_add-result : goal.overflow_add-result
overflow_add-result g c = let fits = list-fits _ _ c.requires c.in_ok-len.ensures.estimate in omega arith

pub returns-clause-ok : goal.returns-clause-ok
returns-clause-ok g c = list-written _ _ _ _ c.requires c.in_ok-len.ensures.ok

pub returns-clause-length : goal.returns-clause-length
returns-clause-length g c = list-long _ _ c.in_ok-len.ensures.estimate
