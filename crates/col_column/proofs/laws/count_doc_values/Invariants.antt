use Rattle.std.proofs.Common.{◌≡◌, ◌<◌, ◌+◌, ◌^◌, length}
use Rattle.col_column.specs.Columns.{rows_of_values, row_at}
use Rattle.col_column.proofs.laws.count_doc_values.Given as goal

-- what was counted and what is left are the row
abbrev pub invariant-loop-value : goal.invariant-loop-value
invariant-loop-value g l =
    let row = row_at (rows_of_values g.V.ColumnValues.values l.column) l.doc in
    record {
      counted : l.count + length l._value-iterator ≡ length row;
      few : length row < 2 ^ 64;
    }
