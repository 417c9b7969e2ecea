use Rattle.std.proofs.Common.{◌≡◌, drop}
use Rattle.std.specs.List.{list_all}
use Rattle.std.specs.Result.{is_ok}
use Rattle.csv.specs.Records.{fields_of}
use Rattle.col_load_csv.specs.Columns.{column_fields}
use Rattle.col_load_csv.proofs.RowLemmas.{is_part, pairs}
use Rattle.col_load_csv.proofs.row.are_values.Given as goal

-- all have values, where those from the place on do
abbrev pub invariant-loop-place : goal.invariant-loop-place
invariant-loop-place l =
    list_all is_part (drop l.place (pairs l.columns (fields_of l.row)))
    ≡ is_ok (column_fields (pairs l.columns (fields_of l.row)))
