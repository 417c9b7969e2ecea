-- A file that is written again. States docs/RULES.md, The command line, Upgraded files and
-- Statuses.
use Rattle.std.specs.Prelude.{ℕ, ◌==◌, ◌&&◌, Bool, true, false, List, [], ◌∷◌, codes, bytes_eq}
use Rattle.std.specs.Prelude.{Option, Some, None}
use Rattle.col_model.specs.File.{table_of}
use Rattle.col_program.specs.Outcome.{Outcome, done, refused, as_file}
use Rattle.col_program.specs.Report.{report_of}
use Rattle.col_model.specs.Table.{Table}

-- `upgrade OUT IN`, with one input
abbrev pub are_upgrade_words : List (List ℕ) → ℕ → Bool
are_upgrade_words (upgrade ∷ out ∷ in_ ∷ []) inputs =
    bytes_eq upgrade (codes "upgrade") && (inputs == 1)
are_upgrade_words _ inputs = false

-- what writing a file again comes to: 6 where it has no table, else its table and a short report
-- without lookups
abbrev pub upgraded : Option Table → Outcome
upgraded None = refused 6
upgraded (Some t) = done (as_file t) (report_of t [] true)

-- The outcome of `upgrade`, which has one input.
abbrev pub outcome_of_upgrade : List (List ℕ) → Outcome
outcome_of_upgrade (bytes ∷ []) = upgraded (table_of bytes)
outcome_of_upgrade _ = refused 2
