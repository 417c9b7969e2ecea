-- Lines printed one after another.
use Rattle.std.proofs.Common.{◌∙◌, ℕ, List, [], ◌∷◌, ◌++◌, sym, ap, append-nil, append_assoc}
use Rattle.std.proofs.lemmas.Grind.{flat_map-append}
use Rattle.serde_json.specs.Data.{Data}
use Rattle.serde_json.specs.Written.{compact_text}
use Rattle.col_program.specs.Report.{lines_text, Prints}

-- no lines
pub Prints-none : (a : List ℕ) → Prints a a []
unfolding Prints
Prints-none a = sym (append-nil a)

-- lines behind lines
pub Prints-then : (a b c : List ℕ) (xs ys : List Data) → Prints a b xs → Prints b c ys → Prints a c (xs ++ ys)
unfolding Prints
Prints-then a b c xs ys first second =
    second ∙ ap (λ s. s ++ lines_text ys) first ∙ append_assoc a (lines_text xs) (lines_text ys)
    ∙ ap (λ s. a ++ s) (sym (flat_map-append (λ d. compact_text d ++ 10 ∷ []) xs ys))
