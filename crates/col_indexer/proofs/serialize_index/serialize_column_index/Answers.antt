use Rattle.std.proofs.Common.{ap, ◌∙◌, arith}
use Rattle.std.proofs.lemmas.Result.{err_from_is_err_and}
use Rattle.col_model.specs.Table.{cardinality_code}
use Rattle.col_indexer.proofs.WritingLemmas.{index-written, index-long, index-fits}
use Rattle.col_indexer.proofs.serialize_index.serialize_column_index.Goals as goal

pub returns-in_err-len-clause-ok : goal.returns-in_err-len-clause-ok
returns-in_err-len-clause-ok g c =
    let p = err_from_is_err_and c.from_residual-in_err-len.result c.from_residual-in_err-len.ensures.1 in
    rw (p.1, p.2) (index-written _ _ _ _ _ _ _ (c.to_code.ensures ∙ ap cardinality_code c.get_cardinality.ensures)
    c.in_ok-serialize_bytes.ensures c.in_err-len.ensures.ok)

pub overflow_add-result : goal.overflow_add-result
overflow_add-result g c = let fits = index-fits _ _ c.requires.index c.requires.limit c.in_ok-len.ensures.length in omega arith

pub returns-clause-ok : goal.returns-clause-ok
returns-clause-ok g c =
    index-written _ _ _ _ _ _ _ (c.to_code.ensures ∙ ap cardinality_code c.get_cardinality.ensures)
    c.in_ok-serialize_bytes.ensures c.in_ok-len.ensures.ok

pub returns-clause-length : goal.returns-clause-length
returns-clause-length g c = index-long _ _ c.in_ok-len.ensures.length
