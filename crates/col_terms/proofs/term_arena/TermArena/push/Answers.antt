use Rattle.std.proofs.Common.{◌++◌, [], ◌∷◌, ap, ◌∙◌, arith}
use Rattle.col_terms.proofs.ArenaLemmas.{Grown, grown}
use Rattle.col_terms.proofs.term_arena.TermArena.push.Goals as goal

larger : (c : goal.After-push_reserved)
    → Grown c.self.inside.bytes.items c.self.inside.ends.items c.args.term.now c.extend_from_slice.new.self.items
    c.push_reserved.new.self.items
larger c =
    grown c.self.inside.bytes.items c.self.inside.ends.items c.args.term.now c.len.result
    c.extend_from_slice.new.self.items c.push_reserved.new.self.items c.self.invariant
    c.in_ok-extend_from_slice.ensures.items (omega (arith, c.len.ensures))
    (c.push_reserved.ensures.items ∙ ap (λ es. es ++ c.len.result ∷ []) c.in_ok-reserve.ensures.items)

pub invariant_of-self-2 : goal.invariant_of-self-2
invariant_of-self-2 c = (larger c).holds

pub returns-clause-ok : goal.returns-clause-ok
returns-clause-ok c = (larger c).terms ∙ ap (λ ts. ts ++ c.args.term.now ∷ []) c.self.view_is
