-- The terms of columns, and items of lists of lists.
use Rattle.std.specs.Prelude.{◌≡◌, ◌⊎◌, ℕ, List, [], ◌∷◌, map, slice_get, Option, option_and_then}
use Rattle.std.specs.declared.vec.Vec.{Vec}
use Rattle.std.specs.declared.alloc.Global.{Global}
use Rattle.col_text.specs.Texts.{Texts}

-- the terms of each column
abbrev pub terms_of : List Texts → List (List (List ℕ))
terms_of columns = map (λ c. c.terms) columns

-- the lists that are held
abbrev pub lists_of : List (Vec ℕ Global) → List (List ℕ)
lists_of vs = map (λ v. v.items) vs

-- an item of one of several lists
abbrev pub item_at : {X : Type 0} → List (List X) → ℕ × ℕ → Option X
item_at xss p = option_and_then (λ xs. slice_get xs p.1) (slice_get xss p.0)

-- it is one of the items
abbrev pub IsAmong : {X : Type 0} → X → List X → Type 0
IsAmong x [] = ⊥
IsAmong x (y ∷ ys) = (x ≡ y) ⊎ IsAmong x ys
