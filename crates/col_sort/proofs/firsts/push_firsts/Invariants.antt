use Rattle.std.proofs.Common.{◌≡◌, ◌-◌, ◌≤◌, drop}
use Rattle.col_column.specs.Columns.{rows_of_values}
use Rattle.col_sort.specs.Firsts.{first_keys}
use Rattle.col_sort_rows.specs.Keys.{added, rows_from}
use Rattle.col_sort.proofs.firsts.push_firsts.Given as goal

abbrev pub invariant-loop-at : goal.invariant-loop-at
invariant-loop-at g l =
    let ks = first_keys (g.M.KeyOf.key l.keys) (rows_of_values g.V.ColumnValues.values l.column) in
    (l.at ≤ l.num_docs)
    × (added l.rows (rows_from l.segment_ord l.at (drop l.at ks)) ≡ added l.fn.rows (rows_from l.segment_ord 0 ks))

abbrev pub decreases-loop-at : goal.decreases-loop-at
decreases-loop-at g l = l.num_docs - l.at
