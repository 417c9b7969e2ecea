-- Worked runs of checks, computed: the report on a file's entries, or the status.
use Rattle.std.specs.Prelude.{◌≡◌, true, [], ◌∷◌, codes, refl}
use Rattle.col_program.proofs.OnLiterals.{col_program_on_literals}
use Rattle.col_program.specs.Outcome.{outcome}
use Rattle.col_program.proofs.RunForms.{answer_of, is_report_alone, check_words, two_values_bytes, cut_bytes, lines}

whole_entry : answer_of (outcome check_words (two_values_bytes ∷ []) [])
    ≡ [] ∷ lines (codes "[\"rows\",2]" ∷ codes "[\"entry\",\"a\",\"u64\",true]" ∷ []) ∷ []
unfolding col_program_on_literals
whole_entry = refl

no_output : is_report_alone (outcome check_words (two_values_bytes ∷ []) []) ≡ true
unfolding col_program_on_literals
no_output = refl

-- a script is not read
other_script : outcome check_words (two_values_bytes ∷ []) (codes "[") ≡ outcome check_words (two_values_bytes ∷ []) []
unfolding col_program_on_literals
other_script = refl

-- a column of one byte
broken_entry : answer_of (outcome check_words
    ((5 ∷ 129 ∷ 131 ∷ 97 ∷ 0 ∷ 1 ∷ 129 ∷ 6 ∷ 0 ∷ 0 ∷ 0 ∷ 0 ∷ 0 ∷ 0 ∷ 0 ∷ 3 ∷ 0 ∷ 0 ∷ 0 ∷ 2 ∷ 0 ∷ 0 ∷ 0 ∷ 2 ∷ 113
    ∷ 119 ∷ 66 ∷ []) ∷ []) [])
    ≡ [] ∷ lines (codes "[\"rows\",3]" ∷ codes "[\"entry\",\"a\",\"u64\",false]" ∷ []) ∷ []
unfolding col_program_on_literals
broken_entry = refl

no_key_table : answer_of (outcome check_words (cut_bytes ∷ []) []) ≡ (6 ∷ []) ∷ []
unfolding col_program_on_literals
no_key_table = refl

no_input : answer_of (outcome check_words [] []) ≡ (2 ∷ []) ∷ []
unfolding col_program_on_literals
no_input = refl

two_inputs : answer_of (outcome (codes "check" ∷ codes "in" ∷ codes "in" ∷ []) (two_values_bytes ∷ two_values_bytes ∷ []) [])
    ≡ (2 ∷ []) ∷ []
unfolding col_program_on_literals
two_inputs = refl
