use Rattle.std.proofs.Common.{◌∷◌, ◌++◌, [], codes, map, take}
use Rattle.col_csv.specs.Csv.{heading}
use Rattle.col_csv_export.specs.Putting.{HasFields}
use Rattle.col_opened.specs.Opened.{column_of}
use Rattle.col_csv_export.proofs.records.fill_header.Given as goal

abbrev pub invariant-loop-named : goal.invariant-loop-named
invariant-loop-named l =
    HasFields l.fields ((codes "#" ∷ []) ++ map (λ c. heading (column_of c)) (take l.named-index l.columns))
