use Rattle.std.proofs.Common.{◌≡◌, true, ◌++◌, take}
use Rattle.col_facet.specs.Facets.{are_counted}
use Rattle.col_facet.proofs.merge.push_all.Given as goal

abbrev pub invariant-loop-facet : goal.invariant-loop-facet
invariant-loop-facet l =
    (l.sums.items ≡ l.initial.sums.items ++ take l.facet-index l.facets)
    × (are_counted l.fn.sums.items ≡ true → are_counted l.sums.items ≡ true)
