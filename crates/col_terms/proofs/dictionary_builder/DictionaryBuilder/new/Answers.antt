use Rattle.std.proofs.Common.{sym, subst}
use Rattle.col_terms.specs.Hashing.{AreHashed}
use Rattle.col_terms.proofs.ChainLemmas.{hashed-none}
use Rattle.col_terms.proofs.dictionary_builder.DictionaryBuilder.new.Goals as goal

pub invariant_of-result : goal.invariant_of-result
invariant_of-result c =
    subst (λ ts. AreHashed ts c.new-2.result c.new-3.result) (sym c.new.ensures)
    (hashed-none c.new-2.result c.new-3.result c.new-2.ensures)
