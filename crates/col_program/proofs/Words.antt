-- Worked rows of the command line, computed.
use Rattle.std.specs.Prelude.{◌≡◌, [], ◌∷◌, Some, None, refl, map, codes, ◌^◌, ◌-◌}
use Rattle.col_program.proofs.OnLiterals.{col_program_on_literals}
use Rattle.col_program.specs.Outcome.{refused, number_word, gen_number, outcome_of_merge}

number_words : map number_word (codes "0" ∷ codes "07" ∷ codes "70" ∷ [] ∷ codes "-1" ∷ codes "18446744073709551615"
    ∷ codes "18446744073709551616" ∷ []) ≡ Some 0 ∷ None ∷ Some 70 ∷ None ∷ None ∷ Some (2 ^ 64 - 1) ∷ None ∷ []
number_words = refl

gen_words : map (gen_number (codes "gen" ∷ codes "out" ∷ codes "7" ∷ [])) (0 ∷ 1 ∷ []) ≡ Some 7 ∷ None ∷ []
gen_words = refl

-- while `merge` is the only command
gen_refused : outcome_of_merge (codes "gen" ∷ codes "out" ∷ codes "7" ∷ []) [] [] ≡ refused 2
unfolding col_program_on_literals
gen_refused = refl
