-- What is appended to a generated script.
use Rattle.std.specs.Prelude.{◌≡◌, ℕ, pos, ◌-ℤ◌, List, [], ◌∷◌, ◌++◌, codes}
use Rattle.serde_json.specs.Data.{Data, number, string}
use Rattle.serde_json.specs.Find.{of_integer}
use Rattle.col_program.specs.Report.{lines_text, list_data, count_data}
use Rattle.col_program.specs.GenScript.{Drawn, address_data, find_data, sized_script}

-- ["segment",n]
abbrev pub segment_line : ℕ → Data
segment_line n = list_data (string (codes "segment") ∷ count_data n ∷ [])

-- sizes from 0 to 99
abbrev pub size_find : Data
size_find = find_data (codes "size") (codes "i64") (count_data 0) (count_data 99) 0 4000

-- cities from "c1" to "c15"
abbrev pub city_find : Data
city_find =
    find_data (codes "city") (codes "str") (string (codes "c1")) (string (codes "c15")) 0 4000

-- deltas from -10 to 10, of the documents in the middle
abbrev pub delta_find : Data
delta_find = find_data (codes "delta") (codes "i64") (number (of_integer (pos 0 -ℤ pos 10)))
    (count_data 10) 1000 3000

-- addresses from 0 to 255
abbrev pub addr_find : Data
addr_find = find_data (codes "addr") (codes "ip") (address_data 0) (address_data 255) 0 4000

-- the bytes grew by the text of the lines, and the state is the one behind them
unfoldable pub Adds : List ℕ → List ℕ → ℕ → Drawn → Type 0
Adds old new state drawn = (new ≡ old ++ lines_text drawn.0) × (state ≡ drawn.1)

-- the script of s segments of k documents, from a number
unfoldable pub IsSized : ℕ → ℕ → ℕ → List ℕ → Type 0
IsSized s k n script = script ≡ sized_script s k n
