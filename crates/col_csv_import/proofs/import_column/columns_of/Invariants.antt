use Rattle.std.proofs.Common.{◌≡◌, map, take}
use Rattle.col_csv_import.specs.Columns.{no_values}
use Rattle.col_csv_import.specs.Headings.{heading_key}
use Rattle.col_csv_import.proofs.import_column.columns_of.Given as goal

abbrev pub invariant-loop-heading : goal.invariant-loop-heading
invariant-loop-heading l =
    l.columns.items ≡ map (λ h. no_values (heading_key h)) (take l.heading-index l.headings)
