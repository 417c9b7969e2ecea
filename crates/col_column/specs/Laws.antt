-- Laws about columns: public calls ensure them, and have nothing else to do.
use Rattle.std.specs.Prelude.{◌≡◌, ℕ, List, Option}
use Rattle.std.specs.declared.cmp.Ordering.{Ordering}
use Rattle.col_model.specs.Index.{Shape}
use Rattle.col_model.specs.Lookup.{docs_between}
use Rattle.col_model.specs.Table.{Cell}
use Rattle.col_values.specs.Values.{is_between}
use Rattle.col_column.specs.Columns.{rows_by, content_seen}
use Rattle.col_column.specs.Lookups.{docs_passing}

-- A lookup by values finds the documents that a filter of the column's cells gives.
abbrev pub LookupsAreThoseOfCells : {T : Type 0} → (T → T → Option Ordering) → (T → Cell) → Type 0
LookupsAreThoseOfCells {T = T} partial_cmp cell =
    (terms : List (List ℕ)) (s : Shape) (xs : List T) (low high : T) (from to : ℕ) →
    docs_passing (is_between partial_cmp low high) (rows_by s xs) from to
    ≡ docs_between (content_seen terms cell s xs) (cell low) (cell high) from to
