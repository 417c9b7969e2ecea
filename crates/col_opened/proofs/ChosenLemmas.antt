-- Items that are chosen by flags, and their places.
use Rattle.std.proofs.Common.{◌≡◌, ℕ, ◌+◌, ◌≤◌, Bool, true, false, cond, List, [], ◌∷◌, ◌++◌, map, length, replicate, count_by, is_some, refl, sym, ap, ◌∙◌, append-nil, arith}
use Rattle.std.specs.List.{AllByRecursion}
use Rattle.std.proofs.lemmas.List.Sums.{sum_by-cons}
use Rattle.col_opened.specs.Chosen.{chosen, places_from}

-- what is made of the chosen items
pub chosen-map : {A B : Type 0} (f : A → B) (ws : List Bool) (xs : List A) → chosen ws (map f xs) ≡ map f (chosen ws xs)
chosen-map f [] xs = refl
chosen-map f (w ∷ ws) [] = refl
chosen-map f (true ∷ ws) (x ∷ xs) = ap (λ r. f x ∷ r) (chosen-map f ws xs)
chosen-map f (false ∷ ws) (x ∷ xs) = chosen-map f ws xs

-- where each flag is set, all items are chosen
pub chosen-all : {A : Type 0} (xs : List A) → chosen (replicate (length xs) true) xs ≡ xs
chosen-all [] = refl
chosen-all (x ∷ xs) = ap (λ r. x ∷ r) (chosen-all xs)

-- no more items are chosen than flags are set
pub chosen-few : {A : Type 0} (ws : List Bool) (xs : List A) → length (chosen ws xs) ≤ count_by (λ w. w) ws
chosen-few [] xs = omega arith
chosen-few (w ∷ ws) [] = omega arith
chosen-few (true ∷ ws) (x ∷ xs) = omega (arith, sum_by-cons (λ w. cond w 1 0) true ws, chosen-few ws xs)
chosen-few (false ∷ ws) (x ∷ xs) = omega (arith, sum_by-cons (λ w. cond w 1 0) false ws, chosen-few ws xs)

-- what holds of all items holds of those that are chosen
pub all-chosen : {A : Type 0} (P : A → Type 0) (ws : List Bool) (xs : List A) → AllByRecursion P xs
    → AllByRecursion P (chosen ws xs)
all-chosen P [] xs all = tt
all-chosen P (w ∷ ws) [] all = tt
all-chosen P (true ∷ ws) (x ∷ xs) all = (all.0, all-chosen P ws xs all.1)
all-chosen P (false ∷ ws) (x ∷ xs) all = all-chosen P ws xs all.1

-- those with a place are those whose flag is set
pub flags-placed : (n : ℕ) (ws : List Bool) → map is_some (places_from n ws) ≡ ws
flags-placed n [] = refl
flags-placed n (true ∷ ws) = ap (λ r. true ∷ r) (flags-placed (n + 1) ws)
flags-placed n (false ∷ ws) = ap (λ r. false ∷ r) (flags-placed n ws)

-- ---- the end of a walk

none-chosen : {A : Type 0} (ws : List Bool) → chosen {A = A} ws [] ≡ []
none-chosen [] = refl
none-chosen (w ∷ ws) = refl

-- where no item is left, all that are chosen were made
pub chosen-end : {A B : Type 0} (f : A → B) (ws rest : List Bool) (xs : List A) (made left : List B) → left ≡ []
    → made ++ chosen rest left ≡ chosen ws (map f xs) → made ≡ map f (chosen ws xs)
chosen-end f ws rest xs made left none so_far =
    sym (append-nil made) ∙ ap (λ end_. made ++ end_) (sym (ap (chosen rest) none ∙ none-chosen rest))
    ∙ so_far ∙ chosen-map f ws xs
