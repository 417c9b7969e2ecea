-- What records of a text make of columns, row by row.
use Rattle.std.specs.Prelude.{ℕ, ◌+◌, List, [], ◌∷◌, get_or, if◌then◌else◌, Option, Some, None}
use Rattle.col_common.specs.Reading.{◌>>=◌}
use Rattle.col_csv.specs.CsvTable.{is_record_of}
use Rattle.col_csv_import.specs.Columns.{FilledColumn, with_field}

-- each column with its field of a row, the first one with the field at a place
unfoldable pub with_fields : ℕ → List (List ℕ) → ℕ → List FilledColumn → Option (List FilledColumn)
with_fields d fields i [] = Some []
with_fields d fields i (c ∷ cs) =
    with_field d (get_or fields i []) c >>= λ x. with_fields d fields (i + 1) cs >>= λ xs.
    Some (x ∷ xs)

-- the columns with a record of so many fields, where it is that of row d
abbrev pub with_row : ℕ → ℕ → List (List ℕ) → List FilledColumn → Option (List FilledColumn)
with_row count d fields cs =
    let next = with_fields d fields 1 cs in if is_record_of count (d, fields) then next else None

-- the columns with the records of the rows from d on
unfoldable pub with_rows : ℕ → ℕ → List (List (List ℕ)) → List FilledColumn
    → Option (List FilledColumn)
with_rows count d [] cs = Some cs
with_rows count d (fields ∷ rows) cs =
    with_row count d fields cs >>= λ next. with_rows count (d + 1) rows next
