-- The bytes of columns, as calls read them.
use Rattle.std.specs.Prelude.{ℕ, ◌==◌, List, length, sum, is_some, Option}
use Rattle.std.specs.Int.{w64}
use Rattle.col_common.specs.Reading.{◌>>=◌, only_if, parts_by_first}
use Rattle.col_compact.specs.Coded.{Coded, headed_list}
use Rattle.col_model.specs.Index.{Counts, Shape, counts_over, shape}
use Rattle.col_column.specs.Columns.{Seen, counts_seen, rows_by}

-- the shape has so many rows, and counts so many values
abbrev pub counts_exactly : ℕ → ℕ → Shape → Option Counts
counts_exactly rows values s = counts_over rows s >>= λ c. only_if (sum c.of_rows == values) c

-- the counts, and the rows of a list
abbrev pub counted_rows : {T : Type 0} → Shape → List T → Counts × List (List T)
counted_rows s xs = (counts_seen s (length xs), rows_by s xs)

-- the shape with values, of which there are so many, where it has so many rows and counts them
abbrev pub column_seen_by : {V : Type 0} → ℕ → ℕ → V → Shape → Option (Seen V)
column_seen_by rows count values s =
    only_if (is_some (counts_exactly rows count s)) (record { shape = s; values = values })

-- the shape that the bytes of an index stand for, with such values
abbrev pub indexed_by : {V : Type 0} → List ℕ → ℕ → ℕ → ℕ → V → Option (Seen V)
indexed_by bytes version rows count values =
    shape bytes version >>= column_seen_by rows count values

-- the codes, with their ranges, that the bytes of a column of addresses spell behind its index
abbrev pub codes_behind : List ℕ → Option Coded
codes_behind bytes = parts_by_first w64 bytes >>= λ p. headed_list p.1
