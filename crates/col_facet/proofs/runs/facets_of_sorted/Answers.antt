use Rattle.std.proofs.Common.{arith}
use Rattle.col_facet.proofs.runs.facets_of_sorted.Goals as goal
use Rattle.col_facet.proofs.RunLemmas.{up-sorted, run-step, run-end, rest-length}

pub loop-at-preserved : goal.loop-at-preserved
loop-at-preserved g c =
    let o = g.met.T.Ord.total in
    let xs = c.args.places.now in (
      omega (arith, rest-length xs c.loop-at.at, c.front_run-run.ensures.within),
      run-step g.T.Ord.cmp o (g.P.PlaceCells.cells c.args.cells.now) c.requires.keeps g.T.PartialEq.eq g.met.T.Ord.matches_eq xs
          c.loop-at.facets.items c.push.new.self.items c.loop-at.at c.front_run-run.result c.index-places-at.result c.in_ok-cell.cell
          (up-sorted g.T.Ord.cmp o xs c.requires.sorted) c.loop-at-test.true c.index-places-at.is
          c.front_run-run.ensures.run c.loop-at.invariant.1 c.in_ok-push.ensures.items c.in_ok-cell.ensures,
    )

pub returns : goal.returns
returns g c =
    run-end (g.P.PlaceCells.cells c.args.cells.now) c.args.places.now c.loop-at.facets.items _ c.loop-at.at c.loop-at.invariant.1
    c.loop-at-test.false
