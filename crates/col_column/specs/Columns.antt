-- Columns: an index with values, and the rows that it cuts them into.
use Rattle.std.specs.Prelude.{◌≡◌, ℕ, ◌≤◌, List, [], map, length, sum, replicate, slice_get, slice_range, unwrap_or, Option}
use Rattle.col_model.specs.Dictionary.{cut}
use Rattle.col_model.specs.Index.{Counts, Shape, empty_shape, full_shape, optional_shape, multivalued_shape}
use Rattle.col_model.specs.Table.{Cell, Content}
use Rattle.col_indexer.specs.Offsets.{cardinality_in}

-- the shape of a column's index, and its values
pub record Seen (V : Type 0) : Type 0 where
  pub shape : Shape
  pub values : V

-- how many rows there are, where so many values stand behind a shape
abbrev pub row_count : Shape → ℕ → ℕ
row_count (empty_shape m) n = m
row_count full_shape n = n
row_count (optional_shape cs) n = length cs
row_count (multivalued_shape cs) n = length cs

-- how many values each of them has
abbrev pub counts_by : Shape → ℕ → List ℕ
counts_by (empty_shape m) n = replicate m 0
counts_by full_shape n = replicate n 1
counts_by (optional_shape cs) n = cs
counts_by (multivalued_shape cs) n = cs

-- The shape counts exactly so many values; a Full one goes with any number.
abbrev pub IsCounted : Shape → ℕ → Type 0
IsCounted (empty_shape m) n = n ≡ 0
IsCounted full_shape n = Unit {0}
IsCounted (optional_shape cs) n = sum cs ≡ n
IsCounted (multivalued_shape cs) n = sum cs ≡ n

-- The rows: the values, cut by the counts.
unfoldable pub rows_by : {T : Type 0} → Shape → List T → List (List T)
rows_by s xs = cut (counts_by s (length xs)) xs

-- the values of a row, none where there is no such row
abbrev pub row_at : {T : Type 0} → List (List T) → ℕ → List T
row_at rows d = unwrap_or (slice_get rows d) []

-- positions of values, from the first to behind the last, are those of a row
pub record AreOf {T : Type 0} (xs : List T) (positions : ℕ × ℕ) (row : List T) : Type 0 where
  pub order : positions.0 ≤ positions.1
  pub within : positions.1 ≤ length xs
  pub values : slice_range xs positions.0 positions.1 ≡ row

-- the first value of a row, where it has one
abbrev pub first_at : {T : Type 0} → List (List T) → ℕ → Option T
first_at rows d = slice_get (row_at rows d) 0

-- the first value of each row, or a default
abbrev pub firsts_or : {T : Type 0} → T → List (List T) → List T
firsts_or default rows = map (λ row. unwrap_or (slice_get row 0) default) rows

-- the counts of the rows, with their cardinality
abbrev pub counts_seen : Shape → ℕ → Counts
counts_seen s n = record { cardinality = cardinality_in s; of_rows = counts_by s n }

-- what stands in a column of these terms, whose values are seen as cells
abbrev pub content_seen : {T : Type 0} → List (List ℕ) → (T → Cell) → Shape → List T → Content
content_seen terms cell s xs = record {
  cardinality = cardinality_in s;
  terms = terms;
  rows = map (map cell) (rows_by s xs);
}

-- the rows of a column, and how many there are, by what its values are as a list
abbrev pub rows_of_values : {V T : Type 0} → (V → List T) → Seen V → List (List T)
rows_of_values list c = rows_by c.shape (list c.values)

abbrev pub num_docs_in : {V T : Type 0} → (V → List T) → Seen V → ℕ
num_docs_in list c = row_count c.shape (length (list c.values))
