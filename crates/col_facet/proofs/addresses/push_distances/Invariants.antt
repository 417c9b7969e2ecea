-- The addresses so far lie so far above the least.
use Rattle.std.proofs.Common.{◌≡◌, ◌+◌, ◌++◌, map, take}
use Rattle.col_facet.proofs.addresses.push_distances.Given as goal

abbrev pub invariant-loop-value : goal.invariant-loop-value
invariant-loop-value l =
    map (λ n. l.addresses + n) l.distances.items
    ≡ map (λ n. l.addresses + n) l.fn.distances.items ++ take l.value-index l.values
