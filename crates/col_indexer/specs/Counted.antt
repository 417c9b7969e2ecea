-- Rows with a value and start offsets, from the counts of rows.
use Rattle.std.specs.Prelude.{ℕ, ◌≤◌, ◌+◌, ◌==◌, nat_le, List, [], ◌∷◌, map, if◌then◌else◌}
use Rattle.std.specs.List.{list_all, range_with_len}
use Rattle.col_model.specs.Index.{Shape, empty_shape, full_shape, optional_shape, multivalued_shape}
use Rattle.col_model.specs.Positions.{rows_with_value, count_in}
use Rattle.col_model.specs.Table.{Cardinality, full, optional, multivalued}

-- the rows with a value of rows behind so many others
abbrev pub rows_behind : ℕ → List ℕ → List ℕ
rows_behind before counts = map (λ row. before + row) (rows_with_value counts)

-- where the values of each row with a value end, behind so many others
unfoldable pub ends_behind : ℕ → List ℕ → List ℕ
ends_behind before [] = []
ends_behind before (c ∷ cs) =
    let later = ends_behind (before + c) cs in if c == 0 then later else (before + c) ∷ later

-- Full where each row has one value, Optional where each has at most one, else Multivalued.
abbrev pub tightest_of : List ℕ → Cardinality
tightest_of counts =
    if list_all (λ c. c == 1) counts then full
    else if list_all (λ c. nat_le c 1) counts then optional
    else multivalued

-- the counts of so many rows
abbrev pub counts_in : ℕ → Shape → List ℕ
counts_in n (empty_shape m) = map (λ row. 0) (range_with_len 0 n)
counts_in n full_shape = map (λ row. 1) (range_with_len 0 n)
counts_in n (optional_shape cs) = cs
counts_in n (multivalued_shape cs) = cs

-- no row has more than one value
abbrev pub HasFew : Shape → Type 0
HasFew s = (row : ℕ) → count_in s row ≤ 1
