use Rattle.std.proofs.Common.{subst}
use Rattle.col_terms.specs.Building.{AreOrdered}
use Rattle.col_terms.proofs.TermRefLemmas.{are_ordered}
use Rattle.col_terms.proofs.dictionary_builder.DictionaryBuilder.ordered_terms.Goals as goal

pub returns : goal.returns
returns c =
    let sorted = c.sort_unstable.ensures in
    subst (λ ts. AreOrdered ts c.sort_unstable.new.self.items) c.self.view_is
    (are_ordered c.self.inside.terms c.self.invariant.differ c.in_ok-terms.terms.items
    c.sort_unstable.new.self.items c.in_ok-terms.ensures sorted.permutation sorted.sorted)
