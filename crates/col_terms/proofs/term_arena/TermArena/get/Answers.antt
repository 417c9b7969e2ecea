use Rattle.std.proofs.Common.{◌-◌, length, take, drop, slice_get, get_or, Some, ◌∷◌, ap, sym, ◌∙◌, arith}
use Rattle.col_terms.specs.TermTable.{terms_by}
use Rattle.col_terms.proofs.ArenaLemmas.{holds-count, HoldsAt, holds-at}
use Rattle.col_terms.proofs.term_arena.TermArena.get.Goals as goal

pub start_of-start-requires : goal.start_of-start-requires
start_of-start-requires c =
    let a = c.self.inside in
    let count = holds-count a.bytes.items a.ends.items (terms_by a.ends.items a.bytes.items) c.self.invariant in
    omega (arith, count, ap length c.self.view_is, c.requires, ap length c.deref.ensures.value)

pub index-requires : goal.index-requires
index-requires c =
    let a = c.self.inside in
    let count = holds-count a.bytes.items a.ends.items (terms_by a.ends.items a.bytes.items) c.self.invariant in
    omega (arith, count, ap length c.self.view_is, c.requires)

placed : (c : goal.After-row_known-1)
    → HoldsAt c.self.inside.bytes.items (terms_by c.self.inside.ends.items c.self.inside.bytes.items) c.args.id
    c.start_of-start.result c.index.result.now
placed c =
    let a = c.self.inside in
    holds-at a.bytes.items a.ends.items (terms_by a.ends.items a.bytes.items) c.args.id c.start_of-start.result
    c.index.result.now c.self.invariant (omega (arith, ap length c.self.view_is, c.requires))
    (c.start_of-start.ensures ∙ ap (λ es. get_or (0 ∷ es) c.args.id 0) c.deref.ensures.value) c.index.ensures

pub slice_bounds-result-count : goal.slice_bounds-result-count
slice_bounds-result-count c = omega (arith, (placed c).ordered)

pub slice_bounds-result-start : goal.slice_bounds-result-start
slice_bounds-result-start c = let h = placed c in omega (arith, h.ordered, h.within, ap length c.deref-2.ensures.value)

pub slice_bounds-result-end : goal.slice_bounds-result-end
slice_bounds-result-end c = let h = placed c in omega (arith, h.ordered, h.within, ap length c.deref-2.ensures.value)

pub returns : goal.returns
returns c =
    let a = c.self.inside in
    let starts = c.start_of-start.ensures ∙ ap (λ es. get_or (0 ∷ es) c.args.id 0) c.deref.ensures.value in
    let here = holds-at a.bytes.items a.ends.items (terms_by a.ends.items a.bytes.items) c.args.id
    c.start_of-start.result c.index.result.now c.self.invariant
    (omega (arith, ap length c.self.view_is, c.requires)) starts c.index.ensures in
    ap (λ ts. slice_get ts c.args.id) (sym c.self.view_is) ∙ here.is
    ∙ ap (λ s. Some (take (c.index.result.now - c.start_of-start.result) (drop c.start_of-start.result s)))
    (sym c.deref-2.ensures.value)
