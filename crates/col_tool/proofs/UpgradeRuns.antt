-- Worked runs of upgrades, computed: the report on the file's table, or the status.
use Rattle.std.specs.Prelude.{◌≡◌, ℕ, List, [], ◌∷◌, ◌++◌, codes, flat_map, refl}
use Rattle.col_program.proofs.OnLiterals.{col_program_on_literals}
use Rattle.col_program.specs.Outcome.{Outcome, done, refused, outcome}
use Rattle.col_tool.specs.Expected.{outcome_of_words}

-- the status, or the report's bytes
abbrev answer_of : Outcome → List (List ℕ)
answer_of (done output report) = [] ∷ report ∷ []
answer_of (refused status) = (status ∷ []) ∷ []

-- lines, each ended by a line feed
abbrev lines : List (List ℕ) → List ℕ
lines texts = flat_map (λ t. t ++ 10 ∷ []) texts

-- bytes that end in no footer
abbrev cut_bytes : List ℕ
cut_bytes = 128 ∷ 1 ∷ 0 ∷ 0 ∷ 0 ∷ 0 ∷ 0 ∷ 0 ∷ 0 ∷ 0 ∷ 0 ∷ 0 ∷ 0 ∷ 2 ∷ 0 ∷ 0 ∷ 0 ∷ 2 ∷ 113 ∷ []

-- the words of a call that writes one input again
abbrev upgrade_words : List (List ℕ)
upgrade_words = codes "upgrade" ∷ codes "out" ∷ codes "in" ∷ []

-- a file of version 1: three rows with the column "a" of u64, which has 7 and 8, nothing, and 9
abbrev old_bytes : List ℕ
old_bytes = 0x02 ∷ 0x00 ∷ 0x80 ∷ 0x81 ∷ 0x83 ∷ 0x84 ∷ 0xe8 ∷ 0x00 ∷ 0x87 ∷ 0x81 ∷ 0x82 ∷ 0x83 ∷ 0x24 ∷ 0x07 ∷ 0x00 ∷ 0x00
    ∷ 0x00 ∷ 0x00 ∷ 0x00 ∷ 0x00 ∷ 0x00 ∷ 0x81 ∷ 0x83 ∷ 0x61 ∷ 0x00 ∷ 0x01 ∷ 0x95 ∷ 0x06 ∷ 0x00 ∷ 0x00 ∷ 0x00 ∷ 0x00
    ∷ 0x00 ∷ 0x00 ∷ 0x00 ∷ 0x03 ∷ 0x00 ∷ 0x00 ∷ 0x00 ∷ 0x01 ∷ 0x00 ∷ 0x00 ∷ 0x00 ∷ 0x02 ∷ 0x71 ∷ 0x77 ∷ 0x42 ∷ []

-- a file of version 2: three rows with the column "s" of str, which has no value
abbrev without_bytes : List ℕ
without_bytes = 0x00 ∷ 0x00 ∷ 0x00 ∷ 0x00 ∷ 0x01 ∷ 0x83 ∷ 0x00 ∷ 0x80 ∷ 0x81 ∷ 0x80 ∷ 0x80 ∷ 0x00 ∷ 0x80 ∷ 0x81 ∷ 0x80 ∷ 0x80
    ∷ 0x07 ∷ 0x00 ∷ 0x00 ∷ 0x00 ∷ 0x00 ∷ 0x00 ∷ 0x00 ∷ 0x00 ∷ 0x04 ∷ 0x00 ∷ 0x00 ∷ 0x00 ∷ 0x81 ∷ 0x83 ∷ 0x73 ∷ 0x00
    ∷ 0x04 ∷ 0x9c ∷ 0x06 ∷ 0x00 ∷ 0x00 ∷ 0x00 ∷ 0x00 ∷ 0x00 ∷ 0x00 ∷ 0x00 ∷ 0x03 ∷ 0x00 ∷ 0x00 ∷ 0x00 ∷ 0x02 ∷ 0x00
    ∷ 0x00 ∷ 0x00 ∷ 0x02 ∷ 0x71 ∷ 0x77 ∷ 0x42 ∷ []

-- a file with a column of one byte
abbrev broken_bytes : List ℕ
broken_bytes = 0x05 ∷ 0x81 ∷ 0x83 ∷ 0x61 ∷ 0x00 ∷ 0x01 ∷ 0x81 ∷ 0x06 ∷ 0x00 ∷ 0x00 ∷ 0x00 ∷ 0x00 ∷ 0x00 ∷ 0x00 ∷ 0x00 ∷ 0x03
    ∷ 0x00 ∷ 0x00 ∷ 0x00 ∷ 0x02 ∷ 0x00 ∷ 0x00 ∷ 0x00 ∷ 0x02 ∷ 0x71 ∷ 0x77 ∷ 0x42 ∷ []

several_values : answer_of (outcome_of_words upgrade_words (old_bytes ∷ []) [])
    ≡ [] ∷ lines (codes "[\"rows\",3]" ∷ codes "[\"column\",\"a\",\"u64\",\"mult\",3]" ∷ []) ∷ []
unfolding outcome_of_words col_program_on_literals
several_values = refl

without_values : answer_of (outcome_of_words upgrade_words (without_bytes ∷ []) [])
    ≡ [] ∷ lines (codes "[\"rows\",3]" ∷ codes "[\"column\",\"s\",\"str\",\"opt\",0]" ∷ []) ∷ []
unfolding outcome_of_words col_program_on_literals
without_values = refl

-- a script is not read
other_script : outcome_of_words upgrade_words (old_bytes ∷ []) (codes "[") ≡ outcome_of_words upgrade_words (old_bytes ∷ []) []
unfolding outcome_of_words col_program_on_literals
other_script = refl

no_column : answer_of (outcome_of_words upgrade_words (broken_bytes ∷ []) []) ≡ (6 ∷ []) ∷ []
unfolding outcome_of_words col_program_on_literals
no_column = refl

no_key_table : answer_of (outcome_of_words upgrade_words (cut_bytes ∷ []) []) ≡ (6 ∷ []) ∷ []
unfolding outcome_of_words col_program_on_literals
no_key_table = refl

no_input : answer_of (outcome_of_words upgrade_words [] []) ≡ (2 ∷ []) ∷ []
unfolding outcome_of_words col_program_on_literals
no_input = refl

two_inputs : answer_of (outcome_of_words (codes "upgrade" ∷ codes "out" ∷ codes "in" ∷ codes "in" ∷ []) (old_bytes ∷ old_bytes ∷ []) [])
    ≡ (2 ∷ []) ∷ []
unfolding outcome_of_words col_program_on_literals
two_inputs = refl

-- other words come to what they come to without an upgrade
other_words : outcome_of_words (codes "check" ∷ codes "in" ∷ []) (old_bytes ∷ []) []
    ≡ outcome (codes "check" ∷ codes "in" ∷ []) (old_bytes ∷ []) []
unfolding outcome_of_words
other_words = refl
