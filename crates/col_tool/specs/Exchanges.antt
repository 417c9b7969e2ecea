-- A table that is written as CSV, and one that is read from it. States docs/RULES.md, The command
-- line, Tables as CSV and Statuses.
use Rattle.std.specs.Prelude.{ℕ, ◌==◌, ◌&&◌, nat_lt, Bool, true, false, List, [], ◌∷◌, length}
use Rattle.std.specs.Prelude.{codes, bytes_eq, if◌then◌else◌, Option, Some, None}
use Rattle.col_csv.specs.Csv.{csv_of, has_multivalued}
use Rattle.col_csv.specs.CsvTable.{table_of_csv}
use Rattle.col_model.specs.File.{table_of}
use Rattle.col_model.specs.Table.{Table}
use Rattle.col_program.specs.Outcome.{Outcome, done, refused, as_file, as_text, max_script_length}
use Rattle.col_program.specs.Report.{report_of}

-- `export OUT IN`, with one input
abbrev pub are_export_words : List (List ℕ) → ℕ → Bool
are_export_words (first ∷ out ∷ in_ ∷ []) inputs =
    bytes_eq first (codes "export") && (inputs == 1)
are_export_words _ inputs = false

-- `import OUT`, without inputs
abbrev pub are_import_words : List (List ℕ) → ℕ → Bool
are_import_words (first ∷ out ∷ []) inputs = bytes_eq first (codes "import") && (inputs == 0)
are_import_words _ inputs = false

-- what writing a file's table as CSV comes to: 6 where it has none, 22 where one of its columns is
-- Multivalued, else its text and a short report without lookups
abbrev pub exported : Option Table → Outcome
exported None = refused 6
exported (Some t) =
    if has_multivalued t then refused 22 else done (as_text (csv_of t)) (report_of t [] true)

-- The outcome of `export`, which has one input.
abbrev pub outcome_of_export : List (List ℕ) → Outcome
outcome_of_export (bytes ∷ []) = exported (table_of bytes)
outcome_of_export _ = refused 2

-- what reading a text's table comes to: 23 where it has none, else the table and a short report
-- without lookups
abbrev pub imported : Option Table → Outcome
imported None = refused 23
imported (Some t) = done (as_file t) (report_of t [] true)

-- The outcome of `import`, which takes the text in place of a script: 21 for a longer one.
abbrev pub outcome_of_import : List ℕ → Outcome
outcome_of_import text =
    let read = imported (table_of_csv text) in
    if nat_lt max_script_length (length text) then refused 21 else read
