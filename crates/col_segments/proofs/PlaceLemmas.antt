-- Places of rows that are dropped.
use Rattle.std.proofs.Common.{◌≡◌, ℕ, zero, suc, ◌+◌, ◌<◌, ◌≤◌, ◌&&◌, true, nat_le, nat_lt, List, [], ◌∷◌, length, drop, get_or, ap, arith}
use Rattle.std.specs.List.{AllByRecursion}
use Rattle.std.proofs.lemmas.List.{drop_more}
use Rattle.col_places.proofs.WalkLemmas.{places-first, places-last, places-rest}
use Rattle.col_segments.specs.Segments.{are_places}

-- one place is looked at
pub places_step : (first n : ℕ) (ids : List ℕ) (i : ℕ) → i < length ids
    → are_places first n (drop i ids)
    ≡ (nat_le first (get_or ids i 0) && nat_lt (get_or ids i 0) n && are_places (get_or ids i 0 + 1) n (drop (i + 1) ids))
places_step first n ids i within = ap (are_places first n) (drop_more ids i 0 within)

-- ---- places ascend

places-from : (first n : ℕ) (ids : List ℕ) (i : ℕ) → are_places first n ids ≡ true → i < length ids → first ≤ get_or ids i 0
places-from first n [] i e lt = absurd (omega arith)
places-from first n (id ∷ ids) zero e lt = places-first first n id ids e
places-from first n (id ∷ ids) (suc i) e lt =
    let here = places-first first n id ids e in
    let later = places-from (id + 1) n ids i (places-rest first n id ids e) (omega arith) in
    omega (arith, here, later)

-- no place is above a later one
pub places-ascend : (first n : ℕ) (ids : List ℕ) → are_places first n ids ≡ true → (i j : ℕ) → i ≤ j → j < length ids
    → get_or ids i 0 ≤ get_or ids j 0
places-ascend first n [] e i j le lt = absurd (omega arith)
places-ascend first n (id ∷ ids) e zero zero le lt = omega arith
places-ascend first n (id ∷ ids) e zero (suc j) le lt =
    let later = places-from (id + 1) n ids j (places-rest first n id ids e) (omega arith) in
    omega (arith, later)
places-ascend first n (id ∷ ids) e (suc i) zero le lt = absurd (omega arith)
places-ascend first n (id ∷ ids) e (suc i) (suc j) le lt =
    places-ascend (id + 1) n ids (places-rest first n id ids e) i j (omega arith) (omega arith)

-- each is below the end
pub places-below : (first end_ : ℕ) (ids : List ℕ) → are_places first end_ ids ≡ true → AllByRecursion (λ id. id < end_) ids
places-below first end_ [] e = tt
places-below first end_ (id ∷ ids) e =
    (places-last first end_ id ids e, places-below (id + 1) end_ ids (places-rest first end_ id ids e))
