-- What came is how far the addresses so far lie above the least.
use Rattle.std.proofs.Common.{◌≡◌, ◌+◌, ◌-◌, ◌≤◌, map, take}
use Rattle.col_facet.proofs.addresses.distances_of_all.Given as goal

abbrev pub invariant-loop-at : goal.invariant-loop-at
invariant-loop-at g l =
    (l.at ≤ l.count)
    × (map (λ n. l.addresses + n) l.distances.items ≡ take l.at (g.V.ColumnValues.values l.list))

abbrev pub decreases-loop-at : goal.decreases-loop-at
decreases-loop-at g l = l.count - l.at
