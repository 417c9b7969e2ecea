-- The records of a column as a list of steps: a document, and then its values.
use Rattle.std.specs.Prelude.{ℕ, ◌==◌, Bool, false, List, [], ◌∷◌, Option, Some, None, if◌then◌else◌}
use Rattle.col_writer_columns.specs.declared.column_operation.ColumnOperation.{ColumnOperation}
use Rattle.col_writer_columns.specs.declared.column_operation.ColumnOperation.TheVariants.{NewDoc, Value}

-- the last document that was told is this one
abbrev pub is_told : Option ℕ → ℕ → Bool
is_told None d = false
is_told (Some last) d = last == d

-- The values in order, and each document before its first one, behind the last that was told.
unfoldable pub operations_after : {X : Type 0} → Option ℕ → List (ℕ × X) → List (ColumnOperation X)
operations_after told [] = []
operations_after told (p ∷ ps) =
    let rest = Value p.1 ∷ operations_after (Some p.0) ps in
    if is_told told p.0 then rest else NewDoc p.0 ∷ rest

-- all of them
abbrev pub operations_of : {X : Type 0} → List (ℕ × X) → List (ColumnOperation X)
operations_of ps = operations_after None ps
