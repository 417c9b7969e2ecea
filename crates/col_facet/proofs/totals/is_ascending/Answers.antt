use Rattle.std.proofs.Common.{◌+◌, drop, not, ◌&&◌, sym, ◌∙◌, ap, arith}
use Rattle.col_facet.specs.Facets.{are_ascending}
use Rattle.col_facet.proofs.totals.is_ascending.Goals as goal
use Rattle.col_facet.proofs.ListedLemmas.{order-at, one-ascends}

pub returns-then-ge : goal.returns-then-ge
returns-then-ge c =
    ap (λ b. not b && are_ascending (drop (c.loop-i.i + 1) c.args.facets.now)) c.if-ge.ensures
    ∙ sym (order-at c.args.facets.now c.loop-i.i _ _ c.loop-i-test.true) ∙ c.loop-i.invariant.1

pub loop-i-preserved : goal.loop-i-preserved
loop-i-preserved c = (
  omega (arith, c.loop-i-test.true),
  ap (λ b. not b && are_ascending (drop (c.loop-i.i + 1) c.args.facets.now)) c.if-ge.ensures
      ∙ sym (order-at c.args.facets.now c.loop-i.i _ _ c.loop-i-test.true) ∙ c.loop-i.invariant.1,
)

pub returns : goal.returns
returns c =
    sym (one-ascends c.args.facets.now c.loop-i.i (omega (arith, c.loop-i-test.false))) ∙ c.loop-i.invariant.1
