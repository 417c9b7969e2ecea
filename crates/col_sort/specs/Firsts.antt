-- Keys of the first values of rows.
use Rattle.std.specs.Prelude.{List, map, slice_get, option_map, Option}

-- the key of each row's first value, where it has one
unfoldable pub first_keys : {T K : Type 0} → (T → K) → List (List T) → List (Option K)
first_keys key rows = map (λ row. option_map key (slice_get row 0)) rows
