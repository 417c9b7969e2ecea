use Rattle.std.proofs.Common.{drop, sym, subst, arith}
use Rattle.col_model.specs.Sorted.{sorted_items}
use Rattle.col_facet.specs.Ranked.{ranked_counts, in_rank, AreRanked}
use Rattle.col_facet.proofs.top.best_ranked.Goals as goal
use Rattle.col_facet.proofs.BestLemmas.{ranked-few, ranked-sorted, best-start, best-step, best-end}

pub loop-at-init : goal.loop-at-init
loop-at-init c = (omega arith, best-start c.new-best.result.items c.args.facets.now c.args.k c.new-best.ensures.items)

pub keep_best-requires : goal.keep_best-requires
keep_best-requires c =
    subst AreRanked (sym c.loop-at.invariant.1)
    (ranked-few c.args.k (sorted_items in_rank (drop c.loop-at.at c.args.facets.now)) (ranked-sorted (drop c.loop-at.at c.args.facets.now)))

pub loop-at-preserved : goal.loop-at-preserved
loop-at-preserved c = (
  omega (arith, c.loop-at.invariant.0),
  best-step c.args.facets.now c.loop-at.at c.args.k c.index-facets-at.result (ranked_counts c.loop-at.best.items)
      (ranked_counts c.keep_best.new.best.items) c.loop-at-test.true c.loop-at.invariant.0 c.index-facets-at.is
      c.loop-at.invariant.1 c.in_ok-keep_best.ensures,
)

pub returns : goal.returns
returns c =
    best-end (ranked_counts c.loop-at.best.items) c.args.facets.now c.loop-at.at c.args.k c.loop-at.invariant.1 c.loop-at-test.false
