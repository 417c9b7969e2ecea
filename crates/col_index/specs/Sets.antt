-- Rows that have a value, as a set with ranks.
use Rattle.std.specs.Prelude.{◌≡◌, ℕ, Bool, true, List, map, filter, nat_eq, Option}
use Rattle.std.specs.List.{list_any}
use Rattle.col_common.specs.Reading.{only_if}
use Rattle.col_model.specs.Index.{RowSet, are_rows}
use Rattle.col_model.specs.Positions.{rank}

-- the row is one of them
abbrev pub holds : List ℕ → ℕ → Bool
holds rows row = list_any (λ r. nat_eq r row) rows

-- those of the rows that have a value, and their ranks
abbrev pub held : List ℕ → List ℕ → List ℕ
held rows docs = filter (holds rows) docs

abbrev pub held_ranks : List ℕ → List ℕ → List ℕ
held_ranks rows docs = map (rank rows) (held rows docs)

-- rows that rise and stay below the count
abbrev pub AreRows : RowSet → Type 0
AreRows s = are_rows s ≡ true

-- the list rises and stays below the count
abbrev pub is_row_list : ℕ → List ℕ → Bool
is_row_list n rows = are_rows (record { num_rows = n; rows = rows })

-- the rows as a set of so many rows, where they are one
abbrev pub set_by : ℕ → List ℕ → Option RowSet
set_by n rows = only_if (is_row_list n rows) (record { num_rows = n; rows = rows })
