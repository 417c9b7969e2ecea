use Rattle.std.proofs.Common.{subst}
use Rattle.col_query.specs.Sets.{turn_over, AreDocs}
use Rattle.col_query.specs.declared.doc_set.Docs.{Docs}
use Rattle.col_query.proofs.SetLemmas.{and_swapped}
use Rattle.col_query.proofs.doc_set.bits_and.Goals as goal

pub returns-in-List : goal.returns-in-List
returns-in-List c =
    λ n p q b s.
    let P : Docs → Type 0 = AreDocs n (λ d. turn_over c.args.other.turned (q d)) in
    and_swapped n p q c.and_mixed.result (c.and_mixed.ensures n q p (subst P c.in-List.is s) b)

pub returns-in-Bits : goal.returns-in-Bits
returns-in-Bits c =
    λ n p q b s.
    let P : Docs → Type 0 = AreDocs n (λ d. turn_over c.args.other.turned (q d)) in
    c.and_bits.ensures n p q b (subst P c.in-Bits.is s)
