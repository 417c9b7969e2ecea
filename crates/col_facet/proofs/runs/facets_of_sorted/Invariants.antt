-- What was found, and the facets of what is left, are the facets.
use Rattle.std.proofs.Common.{◌≡◌, ◌-◌, ◌≤◌, ◌++◌, map, drop, length}
use Rattle.col_facet.specs.Facets.{facets_of}
use Rattle.col_facet.proofs.runs.facets_of_sorted.Given as goal

abbrev pub invariant-loop-at : goal.invariant-loop-at
invariant-loop-at g l =
    (l.at ≤ length l.places)
    × (l.facets.items ++ facets_of (map (g.P.PlaceCells.cells l.cells) (drop l.at l.places))
    ≡ facets_of (map (g.P.PlaceCells.cells l.cells) l.places))

abbrev pub decreases-loop-at : goal.decreases-loop-at
decreases-loop-at g l = length l.places - l.at
