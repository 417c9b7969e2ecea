-- What came is how far the addresses of the documents so far lie above the least.
use Rattle.std.proofs.Common.{◌≡◌, ◌+◌, ◌-◌, ◌≤◌, map, take, length}
use Rattle.col_column.specs.Columns.{rows_of_values}
use Rattle.col_facet.specs.Values.{values_in_rows}
use Rattle.col_facet.proofs.addresses.distances_of_docs.Given as goal

abbrev pub invariant-loop-at : goal.invariant-loop-at
invariant-loop-at g l =
    (l.at ≤ length l.docs)
    × (map (λ n. l.addresses + n) l.distances.items
    ≡ values_in_rows (rows_of_values g.V.ColumnValues.values l.column) (take l.at l.docs))

abbrev pub decreases-loop-at : goal.decreases-loop-at
decreases-loop-at g l = length l.docs - l.at
