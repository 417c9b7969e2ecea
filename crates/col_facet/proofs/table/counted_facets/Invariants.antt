-- What was found, and the cells of the places that are left, are the cells of all places.
use Rattle.std.proofs.Common.{◌≡◌, ◌++◌, drop}
use Rattle.col_facet.specs.Tables.{counted_from}
use Rattle.col_facet.proofs.table.counted_facets.Given as goal

abbrev pub invariant-loop-place : goal.invariant-loop-place
invariant-loop-place g l =
    l.facets.items ++ counted_from (g.P.PlaceCells.cells l.places) l.place (drop l.place l.counts)
    ≡ counted_from (g.P.PlaceCells.cells l.places) 0 l.counts
