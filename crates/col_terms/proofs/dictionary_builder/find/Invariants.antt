use Rattle.col_terms.proofs.ChainLemmas.{IsSought}
use Rattle.col_terms.proofs.dictionary_builder.find.Given as goal

abbrev pub invariant-loop-at : goal.invariant-loop-at
invariant-loop-at l = IsSought l.terms l.chains l.term l.at

abbrev pub decreases-loop-at : goal.decreases-loop-at
decreases-loop-at l = l.at
