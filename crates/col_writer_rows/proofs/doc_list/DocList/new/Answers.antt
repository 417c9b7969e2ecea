use Rattle.std.proofs.Common.{◌∙◌, ap}
use Rattle.col_common.specs.Ascending.{is_never_falling}
use Rattle.col_writer_rows.specs.Documents.{dense_then}
use Rattle.col_writer_rows.proofs.DocumentLemmas.{dense_then-none}
use Rattle.col_writer_rows.proofs.doc_list.DocList.new.Goals as goal

pub invariant_of-result : goal.invariant_of-result
invariant_of-result c = ap (λ r. is_never_falling (dense_then 0 r)) c.new.ensures.items ∙ ap is_never_falling dense_then-none

pub returns : goal.returns
returns c = ap (dense_then 0) c.new.ensures.items ∙ dense_then-none
