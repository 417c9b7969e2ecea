use Rattle.col_terms.specs.Building.{AreNumbered}
use Rattle.col_terms.proofs.dictionary_builder.numbered.Given as goal

abbrev pub invariant-loop-id : goal.invariant-loop-id
invariant-loop-id l = AreNumbered l.terms l.id l.all.items
