-- Entries of a file, of which it is told whether they are columns.
use Rattle.std.specs.Prelude.{ℕ, Bool, List, [], ◌∷◌, map, codes, String, string_bytes}
use Rattle.std.specs.declared.alloc.Global.{Global}
use Rattle.serde_json.specs.Data.{Data, boolean, string}
use Rattle.col_file.specs.Handles.{Handle, listed}
use Rattle.col_model.specs.ColumnType.{type_name}
use Rattle.col_model.specs.Keys.{FileKeys}
use Rattle.col_program.specs.Report.{list_data, rows_line}

-- a name with its handle, as a list of columns has it
abbrev pub listed_name : String Global × Handle → List ℕ × Handle
listed_name p = (string_bytes p.0, p.1)

-- the line of an entry
abbrev pub told_line : List ℕ × Handle → Bool → Data
told_line p whole = list_data (string (codes "entry") ∷ string p.0
    ∷ string (type_name p.1.column_type) ∷ boolean whole ∷ [])

-- the lines of entries, in order
abbrev pub told_lines : List (List ℕ × Handle) → List Bool → List Data
told_lines [] told = []
told_lines (p ∷ ps) [] = []
told_lines (p ∷ ps) (whole ∷ told) = told_line p whole ∷ told_lines ps told

-- the lines of a report on a file's entries
abbrev pub lines_told : FileKeys → List Bool → List Data
lines_told k told = rows_line k.row_count ∷ told_lines (map listed k.entries) told
