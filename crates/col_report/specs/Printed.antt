-- What is appended to a report.
use Rattle.std.specs.Prelude.{◌≡◌, ℕ, nat_lt, List, [], ◌∷◌, ◌++◌, map, filter, length, codes}
use Rattle.hex.specs.Hex.{encode_lower}
use Rattle.serde_json.specs.Data.{Data, string}
use Rattle.serde_json.specs.Written.{compact_text}
use Rattle.col_model.specs.ColumnType.{ColumnType}
use Rattle.col_print.specs.Puts.{SeenOut, Puts}
use Rattle.col_program.specs.Report.{lines_text, list_data, row_line}
use Rattle.col_model.specs.Table.{Cell}

-- the bytes grew by the text of a value
unfoldable pub Spells : List ℕ → List ℕ → Data → Type 0
Spells old new d = new ≡ old ++ compact_text d

-- the text of a value was put
unfoldable pub PutsData : SeenOut → SeenOut → Data → Type 0
PutsData old new d = Puts old new (compact_text d)

-- the text of these lines was put
unfoldable pub PutsLines : SeenOut → SeenOut → List Data → Type 0
PutsLines old new lines = Puts old new (lines_text lines)

-- bytes that aren't UTF-8, by their digits
abbrev pub digits_data : List ℕ → Data
digits_data s = list_data (string (codes "hex") ∷ string (encode_lower s) ∷ [])

-- the text of an array's values behind its first, each with a comma in front
unfoldable pub more_text : List Data → List ℕ
more_text [] = []
more_text (d ∷ ds) = 44 ∷ (compact_text d ++ more_text ds)

-- the lines of numbered rows, but of those that are empty
unfoldable pub filled_lines : ColumnType → List (ℕ × List Cell) → List Data
filled_lines t ps = map (row_line t) (filter (λ p. nat_lt 0 (length p.1)) ps)
