-- Places in rising lists.
use Rattle.std.specs.Prelude.{◌≡◌, ℕ, ◌-◌, ◌^◌, List, slice_index_or}
use Rattle.col_model.specs.Positions.{rank}
use Rattle.col_index.specs.declared.search.Place.{Place}

-- how many numbers are below the target, and the first that isn't, or the greatest of 64 bits
pub record IsPlaceOfTarget (xs : List ℕ) (p : Place) : Type 0 where
  pub count : p.at ≡ rank xs p.target
  pub first : p.next ≡ slice_index_or xs p.at (2 ^ 64 - 1)
