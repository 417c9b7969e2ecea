use Rattle.std.proofs.Common.{◌≡◌, ◌≤◌, ◌⊎◌, inl, inr, length, true, subst, arith}
use Rattle.col_facet.specs.Facets.{are_counted}
use Rattle.col_facet.proofs.merge.merge_ascending.Goals as goal
use Rattle.col_facet.proofs.merge.merge_ascending.Goals.{then-loop-i-test+else-j-right, else-loop-i-test}
use Rattle.col_facet.proofs.MergeLemmas.{ascending-rest, all-merged}

pub push_next-requires-clause-left : goal.push_next-requires-clause-left
push_next-requires-clause-left c = ascending-rest c.loop-i.i c.args.left.now c.requires.left

pub push_next-requires-clause-right : goal.push_next-requires-clause-right
push_next-requires-clause-right c = ascending-rest c.loop-i.j c.args.right.now c.requires.right

pub returns-clause-ok : goal.returns-clause-ok
returns-clause-ok c =
    let over : (length c.args.left.now ≤ c.loop-i.i) ⊎ (length c.args.right.now ≤ c.loop-i.j) =
    elim c.loop-i-test.branch [ then-loop-i-test+else-j-right w ↦ inr (omega arith) | else-loop-i-test w ↦ inl (omega arith) ] in
    all-merged c.args.left.now c.args.right.now c.loop-i.sums.items c.push_all.new.sums.items c.push_all-2.new.sums.items
    c.loop-i.i c.loop-i.j c.requires.left c.requires.right c.loop-i.invariant.3 over
    c.in_ok-push_all.ensures.ok c.in_ok-push_all-2.ensures.ok

pub returns-clause-counted : goal.returns-clause-counted
returns-clause-counted c =
    subst (λ xs. are_counted xs ≡ true) (returns-clause-ok c)
    (c.in_ok-push_all-2.ensures.counted (c.in_ok-push_all.ensures.counted c.loop-i.invariant.2))
