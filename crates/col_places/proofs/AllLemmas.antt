-- Rows of a table, all of which are alive.
use Rattle.std.proofs.Common.{◌≡◌, ◌||◌, ⊎_elim, ℕ, ◌+◌, ◌<◌, ◌≤◌, true, List, [], ◌∷◌, length, map, refl, sym, ap, ◌∙◌, arith}
use Rattle.std.proofs.lemmas.Bool.{eq-eqb, cases_lt}
use Rattle.col_places.specs.Places.{are_places, is_listed, places_of}
use Rattle.col_places.proofs.WalkLemmas.{places-first, places-last, places-rest, places-moved, places-taken, places-passed, places-none, listed-behind, listed-below}

-- there are no more places than fit
pub places-room : (k end_ : ℕ) (ids : List ℕ) → k ≤ end_ → are_places k end_ ids ≡ true → k + length ids ≤ end_
places-room k end_ [] le are = omega (arith, le)
places-room k end_ (id ∷ ids) le are =
    let first_one = places-first k end_ id ids are in
    let last_one = places-last k end_ id ids are in
    let later = places-room (id + 1) end_ ids (omega (arith, last_one)) (places-rest k end_ id ids are) in
    omega (arith, later, first_one)

-- each row is at its own place
pub all-moved : (first k end_ : ℕ) (alive rows : List ℕ) → k + length alive ≡ end_ → are_places k end_ alive ≡ true
    → are_places k end_ rows ≡ true → places_of (first + k) (is_listed rows) alive ≡ map (λ row. first + row) rows
all-moved first k end_ alive [] full are rows = places-none (first + k) (is_listed []) alive (λ r. refl)
all-moved first k end_ [] (row ∷ rows) full are there =
    let first_one = places-first k end_ row rows there in
    let last_one = places-last k end_ row rows there in
    absurd (omega (arith, first_one, last_one, full))
all-moved first k end_ (a ∷ alive) (row ∷ rows) full are there =
    ⊎_elim
    (later (λ rows there. all-moved first (k + 1) end_ alive rows count moved there))
    (here (λ rows there. all-moved first (k + 1) end_ alive rows count moved there))
    (cases_lt k row)
  where
    rest : are_places (a + 1) end_ alive ≡ true
    rest = places-rest k end_ a alive are

    first_is : a ≡ k
    first_is =
        let low = places-first k end_ a alive are in
        let high = places-last k end_ a alive are in
        let room = places-room (a + 1) end_ alive (omega (arith, high)) rest in
        omega (arith, low, room, full)

    moved : are_places (k + 1) end_ alive ≡ true
    moved = ap (λ n. are_places (n + 1) end_ alive) (sym first_is) ∙ rest

    count : k + 1 + length alive ≡ end_
    count = omega (arith, full)

    place : first + k + 1 ≡ first + (k + 1)
    place = omega arith

    later : ((rows : List ℕ) → are_places (k + 1) end_ rows ≡ true
        → places_of (first + (k + 1)) (is_listed rows) alive ≡ map (λ row. first + row) rows) → k < row
        → places_of (first + k) (is_listed (row ∷ rows)) (a ∷ alive) ≡ map (λ r. first + r) (row ∷ rows)
    later again lt =
        let upto = places-moved k end_ row rows there (k + 1) (omega (arith, lt)) in
        let unlisted = listed-below (k + 1) end_ (row ∷ rows) a upto (omega (arith, first_is)) in
        places-passed (first + k) (is_listed (row ∷ rows)) a alive unlisted
        ∙ ap (λ n. places_of n (is_listed (row ∷ rows)) alive) place
        ∙ again (row ∷ rows) upto

    here : ((rows : List ℕ) → are_places (k + 1) end_ rows ≡ true
        → places_of (first + (k + 1)) (is_listed rows) alive ≡ map (λ row. first + row) rows) → row ≤ k
        → places_of (first + k) (is_listed (row ∷ rows)) (a ∷ alive) ≡ map (λ r. first + r) (row ∷ rows)
    here again le =
        let low = places-first k end_ row rows there in
        let same : row ≡ k = omega (arith, le, low) in
        let listed : is_listed (row ∷ rows) a ≡ true = ap (λ b. b || is_listed rows a) (eq-eqb row a (same ∙ sym first_is)) in
        let behind : are_places (row + 1) end_ alive ≡ true = ap (λ n. are_places (n + 1) end_ alive) same ∙ moved in
        let left : are_places (k + 1) end_ rows ≡ true =
        ap (λ n. are_places (n + 1) end_ rows) (sym same) ∙ places-rest k end_ row rows there in
        places-taken (first + k) (is_listed (row ∷ rows)) a alive listed
        ∙ ap (λ ps. (first + k) ∷ ps) (listed-behind row end_ (first + k + 1) rows alive behind)
        ∙ ap (λ n. (first + k) ∷ places_of n (is_listed rows) alive) place
        ∙ ap (λ ps. (first + k) ∷ ps) (again rows left)
        ∙ ap (λ n. (first + n) ∷ map (λ r. first + r) rows) (sym same)
