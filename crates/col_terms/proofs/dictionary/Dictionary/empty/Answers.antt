use Rattle.std.proofs.Common.{sym, ap, subst, ◌∙◌, List, ℕ}
use Rattle.col_terms.specs.TermTable.{terms_of, IsTable}
use Rattle.col_terms.proofs.TableLemmas.{empty_table, empty_terms}
use Rattle.col_terms.proofs.dictionary.Dictionary.empty.Goals as goal

pub invariant_of-result : goal.invariant_of-result
invariant_of-result c = let P : List ℕ → Type 0 = λ bytes. IsTable bytes 0 in subst P (sym c.from_static.ensures) empty_table

pub returns : goal.returns
returns c = ap terms_of c.from_static.ensures ∙ empty_terms
