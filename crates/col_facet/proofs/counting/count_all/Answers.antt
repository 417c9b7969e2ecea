use Rattle.std.proofs.Common.{◌+◌, ◌==◌, ◌∙◌, arith}
use Rattle.col_facet.proofs.counting.count_all.Goals as goal
use Rattle.col_facet.proofs.CountingLemmas.{part-counted}

pub loop-at-preserved : goal.loop-at-preserved
loop-at-preserved g c = (
  omega (arith, c.in_ok-next.ensures.behind.1),
  λ i h. part-counted (λ i x. g.T.MonotonicallyMappableToU64.code x == c.args.base + i) c.loop-at.counts c.tally.new.counts
      (g.V.ColumnValues.values c.args.list.now) c.loop-at.at c.in_ok-next.next c.as_slice.result.now
      (omega (arith, c.in_ok-next.ensures.behind.0))
      (c.as_slice.ensures.value ∙ c.in_ok-next.ensures.values) c.loop-at.invariant.1 c.tally.ensures i
      (omega (arith, h, c.tally.auto.counts)),
)
