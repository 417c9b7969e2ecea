use Rattle.std.proofs.Common.{◌≡◌, ◌++◌, drop}
use Rattle.std.specs.List.{concat}
use Rattle.col_terms.specs.Building.{texts}
use Rattle.col_terms.proofs.dictionary_builder.push_texts.Given as goal

abbrev pub invariant-loop-term : goal.invariant-loop-term
invariant-loop-term l = l.bytes.items ++ concat (texts (drop l.term-index l.terms)) ≡ l.initial.bytes.items ++ concat (texts l.terms)
