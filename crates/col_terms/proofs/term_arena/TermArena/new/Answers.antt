use Rattle.std.proofs.Common.{[], sym, subst}
use Rattle.col_terms.specs.Building.{HoldsTerms}
use Rattle.col_terms.proofs.ArenaLemmas.{held, holds-none}
use Rattle.col_terms.proofs.term_arena.TermArena.new.Goals as goal

pub invariant_of-result : goal.invariant_of-result
invariant_of-result c =
    let bytes = c.new.result.items in
    let ends = c.new-2.result.items in
    let h = holds-none bytes ends c.new.ensures.items c.new-2.ensures.items in
    subst (HoldsTerms bytes ends) (sym (held bytes ends [] h)) h

pub returns : goal.returns
returns c =
    let bytes = c.new.result.items in
    let ends = c.new-2.result.items in
    held bytes ends [] (holds-none bytes ends c.new.ensures.items c.new-2.ensures.items)
