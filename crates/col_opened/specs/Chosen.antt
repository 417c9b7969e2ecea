-- Columns of a file that are asked for, each by a flag of its entry.
use Rattle.std.specs.Prelude.{ℕ, ◌+◌, Bool, true, false, List, [], ◌∷◌, Option, Some, None}
use Rattle.col_common.specs.Reading.{◌>>=◌}
use Rattle.col_model.specs.File.{Part, parts_of, part_column, whole_column, table_of_part}
use Rattle.col_model.specs.Keys.{Entry, FileKeys}
use Rattle.col_model.specs.Table.{Column, Table}

-- the items whose flag is set
abbrev pub chosen : {A : Type 0} → List Bool → List A → List A
chosen [] xs = []
chosen (w ∷ ws) [] = []
chosen (true ∷ ws) (x ∷ xs) = x ∷ chosen ws xs
chosen (false ∷ ws) (x ∷ xs) = chosen ws xs

-- a part with just the columns whose flag is set
abbrev pub part_where : List Bool → Part → Part
part_where wanted p = record { row_count = p.row_count; columns = chosen wanted p.columns }

-- The table of those columns of a file whose flag is set, where each of them is inside the
-- grammar.
abbrev pub table_where : List Bool → List ℕ → Option Table
table_where wanted bytes = parts_of bytes >>= λ p. table_of_part (part_where wanted p)

-- the column that an entry's bytes stand for
abbrev pub whole_entry : List ℕ → FileKeys → Entry → Option Column
whole_entry bytes k e = whole_column (part_column bytes k e)

-- for each flag that is set, how many are set before it, counted from a number on
abbrev pub places_from : ℕ → List Bool → List (Option ℕ)
places_from n [] = []
places_from n (true ∷ ws) = Some n ∷ places_from (n + 1) ws
places_from n (false ∷ ws) = None ∷ places_from n ws
