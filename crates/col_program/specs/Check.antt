-- Reports of checks: which entries of a file are columns. States docs/RULES.md, Checks.
use Rattle.std.specs.Prelude.{ℕ, Bool, List, [], ◌∷◌, map, codes, is_some}
use Rattle.serde_json.specs.Data.{Data, boolean, string}
use Rattle.col_model.specs.ColumnType.{type_name}
use Rattle.col_model.specs.File.{Part, PartColumn}
use Rattle.col_program.specs.Report.{list_data, rows_line, lines_text}

-- whether an entry's bytes are a column
abbrev pub is_whole : PartColumn → Bool
is_whole c = is_some c.content

-- ["entry",name,t,b], where b tells that
abbrev pub entry_line : PartColumn → Data
entry_line c = list_data (string (codes "entry") ∷ string c.name
    ∷ string (type_name c.column_type) ∷ boolean (is_whole c) ∷ [])

-- the lines: row count, entries by name and type
abbrev pub check_lines : Part → List Data
check_lines p = rows_line p.row_count ∷ map entry_line p.columns

-- The report of a check of a file.
unfoldable pub check_report : Part → List ℕ
check_report p = lines_text (check_lines p)
