use Rattle.std.proofs.Common.{refl, sym, ◌∙◌}
use Rattle.col_query.proofs.SetLemmas.{no_docs}
use Rattle.col_query.proofs.doc_set.DocSet.none.Goals as goal

pub returns : goal.returns
returns c = λ n. c.new.ensures.items ∙ sym (no_docs _ n (λ d h. refl))
