use Rattle.std.proofs.Common.{◌≡◌, take}
use Rattle.col_facet.specs.Ranked.{ranked_counts}
use Rattle.col_facet.proofs.top.top_facets.Given as goal

abbrev pub invariant-loop-count : goal.invariant-loop-count
invariant-loop-count l = l.top.items ≡ ranked_counts (take l.count-index l.count-items)
