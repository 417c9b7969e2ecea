use Rattle.std.proofs.Common.{◌∷◌, ◌++◌, [], decimal, map, take}
use Rattle.col_csv.specs.Csv.{field_of}
use Rattle.col_csv_export.specs.Putting.{HasFields}
use Rattle.col_dynamic.specs.Dynamic.{type_of, content_of}
use Rattle.col_model.specs.Lookup.{row_of}
use Rattle.col_csv_export.proofs.records.fill_row.Given as goal

abbrev pub invariant-loop-named : goal.invariant-loop-named
invariant-loop-named l =
    HasFields l.fields ((decimal l.row ∷ [])
    ++ map (λ c. field_of (type_of c.column) (row_of (content_of c.column) l.row)) (take l.named-index l.columns))
