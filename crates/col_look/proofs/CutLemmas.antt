-- Rows that values are cut into: their cells, and how many each has.
use Rattle.std.proofs.Common.{◌≡◌, ℕ, List, [], ◌∷◌, ◌++◌, length, take, drop, map, sum, refl, sym, ◌∙◌, ap, ap₂, arith}
use Rattle.std.proofs.lemmas.List.{length-drop, length-map, length-take-le, map-append, take-append-drop}
use Rattle.col_model.specs.Dictionary.{cut}
use Rattle.col_model.specs.U64List.{joined_lists}
use Rattle.col_model.proofs.ListLaws.{sum-cons}

-- the cells of the rows that all values are cut into are those of the values
pub joined-cut : {T U : Type 0} (cell : T → U) (cs : List ℕ) (xs : List T) → sum cs ≡ length xs
    → joined_lists (map (map cell) (cut cs xs)) ≡ map cell xs
unfolding cut
joined-cut cell [] [] e = refl
joined-cut cell [] (x ∷ xs) e = absurd (omega (arith, e))
joined-cut cell (c ∷ cs) xs e =
    let sized = sum-cons c cs in
    let long = length-drop c xs in
    ap (λ ys. map cell (take c xs) ++ ys) (joined-cut cell cs (drop c xs) (omega (arith, e, sized, long)))
    ∙ sym (map-append cell (take c xs) (drop c xs))
    ∙ ap (map cell) (take-append-drop c xs)

-- such rows have as many cells as they are counted
pub lengths-cut : {T U : Type 0} (cell : T → U) (cs : List ℕ) (xs : List T) → sum cs ≡ length xs
    → map length (map (map cell) (cut cs xs)) ≡ cs
unfolding cut
lengths-cut cell [] xs e = refl
lengths-cut cell (c ∷ cs) xs e =
    let sized = sum-cons c cs in
    let long = length-drop c xs in
    ap₂ (λ n ns. n ∷ ns) (length-map (take c xs) cell ∙ length-take-le c xs (omega (arith, e, sized)))
    (lengths-cut cell cs (drop c xs) (omega (arith, e, sized, long)))
