-- Worked runs of exports and imports, computed: what goes to the output where it is a text, and the report; or the status.
use Rattle.std.specs.Prelude.{◌≡◌, ℕ, List, [], ◌∷◌, ◌++◌, codes, flat_map, refl}
use Rattle.col_csv.proofs.OnLiterals.{col_csv_on_literals}
use Rattle.col_program.proofs.OnLiterals.{col_program_on_literals}
use Rattle.col_program.specs.Outcome.{Outcome, done, refused, as_file, as_text, nothing}
use Rattle.col_tool.specs.Expected.{outcome_of_words}

-- the status, or the text and the report's bytes
abbrev answer_of : Outcome → List (List ℕ)
answer_of (done (as_text text) report) = text ∷ report ∷ []
answer_of (done (as_file table) report) = [] ∷ report ∷ []
answer_of (done nothing report) = [] ∷ report ∷ []
answer_of (refused status) = (status ∷ []) ∷ []

-- lines, each ended by a line feed
abbrev lines : List (List ℕ) → List ℕ
lines texts = flat_map (λ t. t ++ 10 ∷ []) texts

-- the words of a call that writes one input as CSV
abbrev export_words : List (List ℕ)
export_words = codes "export" ∷ codes "out" ∷ codes "in" ∷ []

-- and of one that reads CSV
abbrev import_words : List (List ℕ)
import_words = codes "import" ∷ codes "out" ∷ []

-- a file of version 1: three rows with the column "a" of u64, which has 7 and 8, nothing, and 9
abbrev many_bytes : List ℕ
many_bytes = 0x02 ∷ 0x00 ∷ 0x80 ∷ 0x81 ∷ 0x83 ∷ 0x84 ∷ 0xe8 ∷ 0x00 ∷ 0x87 ∷ 0x81 ∷ 0x82 ∷ 0x83 ∷ 0x24 ∷ 0x07 ∷ 0x00 ∷ 0x00
    ∷ 0x00 ∷ 0x00 ∷ 0x00 ∷ 0x00 ∷ 0x00 ∷ 0x81 ∷ 0x83 ∷ 0x61 ∷ 0x00 ∷ 0x01 ∷ 0x95 ∷ 0x06 ∷ 0x00 ∷ 0x00 ∷ 0x00 ∷ 0x00
    ∷ 0x00 ∷ 0x00 ∷ 0x00 ∷ 0x03 ∷ 0x00 ∷ 0x00 ∷ 0x00 ∷ 0x01 ∷ 0x00 ∷ 0x00 ∷ 0x00 ∷ 0x02 ∷ 0x71 ∷ 0x77 ∷ 0x42 ∷ []

-- a file of version 2: three rows with the column "s" of str, which has no value
abbrev without_bytes : List ℕ
without_bytes = 0x00 ∷ 0x00 ∷ 0x00 ∷ 0x00 ∷ 0x01 ∷ 0x83 ∷ 0x00 ∷ 0x80 ∷ 0x81 ∷ 0x80 ∷ 0x80 ∷ 0x00 ∷ 0x80 ∷ 0x81 ∷ 0x80 ∷ 0x80
    ∷ 0x07 ∷ 0x00 ∷ 0x00 ∷ 0x00 ∷ 0x00 ∷ 0x00 ∷ 0x00 ∷ 0x00 ∷ 0x04 ∷ 0x00 ∷ 0x00 ∷ 0x00 ∷ 0x81 ∷ 0x83 ∷ 0x73 ∷ 0x00
    ∷ 0x04 ∷ 0x9c ∷ 0x06 ∷ 0x00 ∷ 0x00 ∷ 0x00 ∷ 0x00 ∷ 0x00 ∷ 0x00 ∷ 0x00 ∷ 0x03 ∷ 0x00 ∷ 0x00 ∷ 0x00 ∷ 0x02 ∷ 0x00
    ∷ 0x00 ∷ 0x00 ∷ 0x02 ∷ 0x71 ∷ 0x77 ∷ 0x42 ∷ []

several_values : answer_of (outcome_of_words export_words (many_bytes ∷ []) []) ≡ (22 ∷ []) ∷ []
unfolding outcome_of_words col_program_on_literals col_csv_on_literals
several_values = refl

without_values : answer_of (outcome_of_words export_words (without_bytes ∷ []) [])
    ≡ lines (codes "#,str:s" ∷ codes "0," ∷ codes "1," ∷ codes "2," ∷ [])
    ∷ lines (codes "[\"rows\",3]" ∷ codes "[\"column\",\"s\",\"str\",\"opt\",0]" ∷ []) ∷ []
unfolding outcome_of_words col_program_on_literals col_csv_on_literals
without_values = refl

no_file : answer_of (outcome_of_words export_words ([] ∷ []) []) ≡ (6 ∷ []) ∷ []
unfolding outcome_of_words col_program_on_literals col_csv_on_literals
no_file = refl

no_input : answer_of (outcome_of_words export_words [] []) ≡ (2 ∷ []) ∷ []
unfolding outcome_of_words col_program_on_literals
no_input = refl

one_value : answer_of (outcome_of_words import_words [] (lines (codes "#,u64:a" ∷ codes "0,=5" ∷ [])))
    ≡ [] ∷ lines (codes "[\"rows\",1]" ∷ codes "[\"column\",\"a\",\"u64\",\"full\",1]" ∷ []) ∷ []
unfolding outcome_of_words col_program_on_literals col_csv_on_literals
one_value = refl

another_row : answer_of (outcome_of_words import_words [] (lines (codes "#,u64:a" ∷ codes "1,=5" ∷ []))) ≡ (23 ∷ []) ∷ []
unfolding outcome_of_words col_program_on_literals col_csv_on_literals
another_row = refl

no_text : answer_of (outcome_of_words import_words [] []) ≡ (23 ∷ []) ∷ []
unfolding outcome_of_words col_program_on_literals col_csv_on_literals
no_text = refl

an_input : answer_of (outcome_of_words import_words ([] ∷ []) (codes "#")) ≡ (2 ∷ []) ∷ []
unfolding outcome_of_words col_program_on_literals
an_input = refl
