use Rattle.std.proofs.Common.{◌++◌, ◌∷◌, [], sym, ap, ◌∙◌, arith}
use Rattle.col_indexer.proofs.RunListLemmas.{ends-some, joined-length, joined, added}
use Rattle.col_indexer.proofs.runs.Runs.push_run.Goals as goal

pub overflow_sub-last : goal.overflow_sub-last
overflow_sub-last c =
    let some = ends-some _ _ _ c.self.invariant c.self.view_is c.args.start c.args.len (sym c.if-ends_at.ensures) in
    omega (arith, some, c.len-last.ensures, c.self.inside.lengths.ok.0)

pub index_mut-requires : goal.index_mut-requires
index_mut-requires c =
    let some = ends-some _ _ _ c.self.invariant c.self.view_is c.args.start c.args.len (sym c.if-ends_at.ensures) in
    omega (arith, some, c.len-last.ensures, c.self.inside.lengths.ok.0)

pub overflow_add-index_mut : goal.overflow_add-index_mut
overflow_add-index_mut c =
    let some = ends-some _ _ _ c.self.invariant c.self.view_is c.args.start c.args.len (sym c.if-ends_at.ensures) in
    let short = joined-length _ _ _ c.self.invariant c.self.view_is c.args.start c.args.len c.index_mut.result.now _
    (omega (arith, some, c.len-last.ensures, c.self.inside.lengths.ok.0)) (sym c.if-ends_at.ensures)
    c.index_mut.ensures.value in
    omega (arith, short, c.requires)

pub invariant_of-self : goal.invariant_of-self
invariant_of-self c =
    let some = ends-some _ _ _ c.self.invariant c.self.view_is c.args.start c.args.len (sym c.if-ends_at.ensures) in
    (joined _ _ _ c.self.invariant c.self.view_is c.args.start c.args.len c.index_mut.result.now _
    (omega (arith, some, c.len-last.ensures, c.self.inside.lengths.ok.0)) (sym c.if-ends_at.ensures)
    c.index_mut.ensures.value c.requires).lists

pub returns-then-ends_at : goal.returns-then-ends_at
returns-then-ends_at c =
    let some = ends-some _ _ _ c.self.invariant c.self.view_is c.args.start c.args.len (sym c.if-ends_at.ensures) in
    (joined _ _ _ c.self.invariant c.self.view_is c.args.start c.args.len c.index_mut.result.now _
    (omega (arith, some, c.len-last.ensures, c.self.inside.lengths.ok.0)) (sym c.if-ends_at.ensures)
    c.index_mut.ensures.value c.requires).view

pub invariant_of-self-2 : goal.invariant_of-self-2
invariant_of-self-2 c =
    (added _ _ _ c.self.invariant c.self.view_is c.args.start c.args.len _ _
    (c.in_ok-push-2.ensures.items ∙ ap (λ xs. xs ++ c.args.start ∷ []) c.in_ok-reserve.ensures.items)
    c.in_ok-push.ensures.items (sym c.if-ends_at.ensures) c.requires).lists

pub returns : goal.returns
returns c =
    (added _ _ _ c.self.invariant c.self.view_is c.args.start c.args.len _ _
    (c.in_ok-push-2.ensures.items ∙ ap (λ xs. xs ++ c.args.start ∷ []) c.in_ok-reserve.ensures.items)
    c.in_ok-push.ensures.items (sym c.if-ends_at.ensures) c.requires).view
