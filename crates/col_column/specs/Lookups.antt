-- Lookups in the rows of a column.
use Rattle.std.specs.Prelude.{ℕ, ◌&&◌, nat_lt, nat_le, Bool, List, filter, length}
use Rattle.std.specs.List.{list_any, range_with_len}
use Rattle.col_column.specs.Columns.{row_at}

-- The rows from a place up to another that have a value that passes, ascending, each once.
unfoldable pub docs_passing : {T : Type 0} → (T → Bool) → List (List T) → ℕ → ℕ → List ℕ
docs_passing test rows from to = filter
    (λ d. nat_le from d && nat_lt d to && list_any test (row_at rows d))
    (range_with_len 0 (length rows))
