-- Places of rows.
use Rattle.std.specs.Prelude.{ℕ, ◌<◌, ◌≤◌, ◌+◌, ◌==◌, ◌&&◌, nat_le, nat_lt, Bool, true, List, [], ◌∷◌, length, map, filter, slice_index, if◌then◌else◌}
use Rattle.std.specs.List.{enumerate_from, list_any}

-- Places ascend strictly, none is before the first, and each is below the end.
abbrev pub are_places : ℕ → ℕ → List ℕ → Bool
are_places first end_ [] = true
are_places first end_ (id ∷ ids) =
    nat_le first id && nat_lt id end_ && are_places (id + 1) end_ ids

-- the place is among those
abbrev pub is_listed : List ℕ → ℕ → Bool
is_listed ids place = list_any (λ id. id == place) ids

-- the places of the items that pass a test, counted from the first one's on
abbrev pub places_of : {A : Type 0} → ℕ → (A → Bool) → List A → List ℕ
places_of first test xs =
    map (λ p. p.0) (filter (λ p. test p.1) (enumerate_from first xs))

-- how many rows a table has, and those of them that are alive, ascending
pub record AliveRows : Type 0 where
  pub count : ℕ
  pub rows : List ℕ

-- no number is above a later one
abbrev pub Ascends : List ℕ → Type 0
Ascends ids = (i j : ℕ) → i ≤ j → j < length ids → slice_index ids i ≤ slice_index ids j

-- the rows, counted from a place on, but for those at the places that are named
abbrev pub rows_without : List ℕ → ℕ → List ℕ → List ℕ
rows_without ids place [] = []
rows_without ids place (row ∷ rows) =
    if is_listed ids place then rows_without ids (place + 1) rows
    else row ∷ rows_without ids (place + 1) rows
