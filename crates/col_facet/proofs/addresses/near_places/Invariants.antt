-- The distances so far are below.
use Rattle.std.proofs.Common.{take}
use Rattle.col_common.specs.Ascending.{AreBelow}
use Rattle.col_facet.proofs.addresses.near_places.Given as goal

abbrev pub invariant-loop-distance : goal.invariant-loop-distance
invariant-loop-distance l = AreBelow l.len (take l.distance-index l.distances)
