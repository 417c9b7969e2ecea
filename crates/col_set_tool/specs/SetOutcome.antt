-- What a script of a set comes to on a disk. States docs/RULES.md, Scripts of a set.
use Rattle.std.specs.Prelude.{ℕ, nat_lt, List, [], ◌∷◌, ◌++◌, length, if◌then◌else◌, Option, Some, None, Result, Ok, Err}
use Rattle.col_model.specs.Refusal.{Refusal, status_of}
use Rattle.col_model.specs.Table.{Table}
use Rattle.col_program.specs.Outcome.{Outcome, as_file, done, max_script_length, refused}
use Rattle.col_program.specs.Report.{lines_text, rows_line}
use Rattle.col_segments.specs.Segments.{HeldTable}
use Rattle.col_set.specs.Held.{held_by}
use Rattle.col_set_run.specs.Outcome.{final_table, found_lines}
use Rattle.col_set_script.specs.SetScripts.{SetStep, set_script_of}

-- the steps, where there are some, or the status of a bad script
abbrev pub steps_or_bad : Option (List SetStep) → Result (List SetStep) ℕ
steps_or_bad None = Err 20
steps_or_bad (Some xs) = Ok xs

-- the steps of a script, or the status that it has by itself: 21 of a longer one, 20 of a bad one
abbrev pub readable : List ℕ → Result (List SetStep) ℕ
readable text =
    if nat_lt max_script_length (length text) then Err 21 else steps_or_bad (set_script_of text)

-- the steps, none of a script that has a status by itself
abbrev pub steps_or_none : Result (List SetStep) ℕ → List SetStep
steps_or_none (Ok xs) = xs
steps_or_none (Err status) = []

abbrev pub steps_in : List ℕ → List SetStep
steps_in text = steps_or_none (readable text)

-- what a table and lines come to, or a refusal
abbrev pub outcome_of_table : List HeldTable → List SetStep → Result Table Refusal → Outcome
outcome_of_table hs xs (Ok t) =
    done (as_file t) (lines_text (found_lines hs xs ++ rows_line t.row_count ∷ []))
outcome_of_table hs xs (Err r) = refused (status_of r)

-- what steps come to on tables: the file of the table that they are made in the end, and the lines
-- of the lookups and of the row count; or the first refusal's status
abbrev pub outcome_on : List HeldTable → List SetStep → Outcome
outcome_on hs xs = outcome_of_table hs xs (final_table hs xs)

-- the same on what a disk holds, and 6 where it holds no set
abbrev pub outcome_held : Option (List HeldTable) → List SetStep → Outcome
outcome_held None xs = refused 6
outcome_held (Some hs) xs = outcome_on hs xs

-- what a script comes to on a disk with these bytes
abbrev pub outcome_read : List ℕ → Result (List SetStep) ℕ → Outcome
outcome_read bytes (Err status) = refused status
outcome_read bytes (Ok xs) = outcome_held (held_by bytes) xs

-- The outcome of the bytes of a disk and of a script: the script's own status, then 6, then what
-- its steps come to.
unfoldable pub set_outcome : List ℕ → List ℕ → Outcome
set_outcome bytes text = outcome_read bytes (readable text)
