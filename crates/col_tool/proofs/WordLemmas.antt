-- Words that may ask for the script of a number.
use Rattle.std.proofs.Common.{◌≡◌, ◌≤◌, ◌<◌, ◌==◌, ℕ, Option, None, List, [], ◌∷◌, length, String, string_bytes, bytes_eq, codes, slice_index_or, arith, refl, ap, ◌∙◌}
use Rattle.std.specs.Prelude.{◌&&◌}
use Rattle.std.specs.declared.alloc.Global.{Global}
use Rattle.col_program.specs.Outcome.{gen_number}
use Rattle.col_tool.specs.Expected.{texts, number_if}

-- three words
pub three-words : (words : List (String Global)) (inputs : ℕ) (a c : String Global) (r : Option ℕ)
    → 3 ≤ length words → length words < 4 → a ≡ slice_index_or words 0 a → c ≡ slice_index_or words 2 c
    → r ≡ number_if (bytes_eq (string_bytes a) (codes "gen") && (inputs == 0)) (string_bytes c)
    → r ≡ gen_number (texts words) inputs
three-words (x ∷ y ∷ z ∷ []) inputs a c r many few e f is =
    is ∙ ap (λ w. number_if (bytes_eq (string_bytes w) (codes "gen") && (inputs == 0)) (string_bytes c)) e
    ∙ ap (λ w. number_if (bytes_eq (string_bytes x) (codes "gen") && (inputs == 0)) (string_bytes w)) f
three-words [] inputs a c r many few e f is = absurd (omega (arith, many))
three-words (x ∷ []) inputs a c r many few e f is = absurd (omega (arith, many))
three-words (x ∷ y ∷ []) inputs a c r many few e f is = absurd (omega (arith, many))
three-words (x ∷ y ∷ z ∷ w ∷ words) inputs a c r many few e f is = absurd (omega (arith, few))

-- fewer
pub fewer-words : (words : List (String Global)) (inputs : ℕ) → length words < 3 → None ≡ gen_number (texts words) inputs
fewer-words [] inputs few = refl
fewer-words (x ∷ []) inputs few = refl
fewer-words (x ∷ y ∷ []) inputs few = refl
fewer-words (x ∷ y ∷ z ∷ words) inputs few = absurd (omega (arith, few))
