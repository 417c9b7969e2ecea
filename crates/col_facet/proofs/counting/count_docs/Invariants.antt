-- Each place has how often its number stands among the values of the documents so far.
use Rattle.std.proofs.Common.{◌≡◌, ℕ, ◌+◌, ◌-◌, ◌<◌, ◌≤◌, ◌==◌, get_or, take, length}
use Rattle.std.specs.List.{count_by}
use Rattle.col_column.specs.Columns.{rows_of_values}
use Rattle.col_facet.specs.Values.{values_in_rows}
use Rattle.col_facet.proofs.counting.count_docs.Given as goal

abbrev pub invariant-loop-at : goal.invariant-loop-at
invariant-loop-at g l =
    (l.at ≤ length l.docs)
    × ((i : ℕ) → i < length l.counts → get_or l.counts i 0
    ≡ count_by (λ x. g.T.MonotonicallyMappableToU64.code x == l.base + i)
    (values_in_rows (rows_of_values g.V.ColumnValues.values l.column) (take l.at l.docs)))

abbrev pub decreases-loop-at : goal.decreases-loop-at
decreases-loop-at g l = length l.docs - l.at
