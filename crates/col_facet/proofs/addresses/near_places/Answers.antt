use Rattle.std.proofs.Common.{arith}
use Rattle.std.proofs.lemmas.Bool.Decides.{nat_tests}
use Rattle.col_facet.proofs.addresses.near_places.Goals as goal
use Rattle.col_facet.proofs.PlaceLemmas.{below-more}

pub loop-distance-preserved : goal.loop-distance-preserved
loop-distance-preserved c =
    below-more c.loop-distance.len c.max-len.result c.args.distances.now c.loop-distance.distance-index c.loop-distance-test.true
    c.loop-distance.invariant (grind (arith, nat_tests, c.max-len.ensures)) (grind (arith, nat_tests, c.max-len.ensures))
