use Rattle.col_facet.proofs.table.counted_facets.Goals as goal
use Rattle.col_facet.proofs.TableLemmas.{counted-step, counted-end}

pub loop-place-preserved : goal.loop-place-preserved
loop-place-preserved g c =
    counted-step (g.P.PlaceCells.cells c.args.places.now) c.args.counts.now c.loop-place.place c.loop-place.facets.items _ _
    c.loop-place-test.true c.loop-place.invariant c.in_ok-push_counted.ensures

pub returns : goal.returns
returns g c =
    counted-end (g.P.PlaceCells.cells c.args.places.now) c.args.counts.now c.loop-place.place _ _
    c.loop-place-test.false c.loop-place.invariant
