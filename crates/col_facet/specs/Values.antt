-- Values in the rows of documents.
use Rattle.std.specs.Prelude.{ℕ, List, flat_map}
use Rattle.col_column.specs.Columns.{row_at}

-- the values in the rows of documents, one row behind another
unfoldable pub values_in_rows : {T : Type 0} → List (List T) → List ℕ → List T
values_in_rows rows docs = flat_map (row_at rows) docs
