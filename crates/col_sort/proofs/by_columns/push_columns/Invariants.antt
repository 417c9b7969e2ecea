use Rattle.std.proofs.Common.{◌≡◌, drop}
use Rattle.col_sort_rows.specs.Keys.{added, rows_of_all}
use Rattle.col_sort.specs.Columns.{all_keys}
use Rattle.col_sort.proofs.by_columns.push_columns.Given as goal

abbrev pub invariant-loop-segment : goal.invariant-loop-segment
invariant-loop-segment g l =
    added l.rows (rows_of_all l.segment (all_keys g.K.ColumnKey.keys (drop l.segment l.columns) (drop l.segment l.counts)))
    ≡ added l.fn.rows (rows_of_all 0 (all_keys g.K.ColumnKey.keys l.columns l.counts))
