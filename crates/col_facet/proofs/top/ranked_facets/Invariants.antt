use Rattle.std.proofs.Common.{◌≡◌, take}
use Rattle.col_facet.specs.Ranked.{ranked_counts}
use Rattle.col_facet.proofs.top.ranked_facets.Given as goal

abbrev pub invariant-loop-facet : goal.invariant-loop-facet
invariant-loop-facet l = ranked_counts l.ranked.items ≡ take l.facet-index l.facets
