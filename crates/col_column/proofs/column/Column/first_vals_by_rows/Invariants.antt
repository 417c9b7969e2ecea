use Rattle.std.proofs.Common.{◌≡◌, take, map}
use Rattle.col_column.specs.Columns.{rows_of_values, first_at}
use Rattle.col_column.proofs.column.Column.first_vals_by_rows.Given as goal

-- what is written is what was asked for
abbrev pub invariant-loop-at : goal.invariant-loop-at
invariant-loop-at g l = take l.at l.output ≡ map (first_at (rows_of_values g.V.ColumnValues.values l.self)) (take l.at l.doc_ids)
