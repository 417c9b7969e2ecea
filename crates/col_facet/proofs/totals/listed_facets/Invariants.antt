use Rattle.std.proofs.Common.{◌≡◌, take}
use Rattle.col_facet.specs.Listed.{listed_counts}
use Rattle.col_facet.proofs.totals.listed_facets.Given as goal

abbrev pub invariant-loop-facet : goal.invariant-loop-facet
invariant-loop-facet l = listed_counts l.listed.items ≡ take l.facet-index l.facets
