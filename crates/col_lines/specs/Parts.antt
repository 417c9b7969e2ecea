-- What parts of lines are read as.
use Rattle.std.specs.Prelude.{ℕ, List, [], ◌∷◌, Option, Some, None}
use Rattle.serde_json.specs.Data.{Data}
use Rattle.col_common.specs.Reading.{◌>>=◌}
use Rattle.col_model.specs.File.{for_each}
use Rattle.col_program.specs.Script.{as_address}
use Rattle.col_program.specs.Values.{as_u32, as_list}

-- the row of two parts
abbrev pub address_among : List Data → Option (ℕ × ℕ)
address_among (s ∷ r ∷ []) = as_u32 s >>= λ s. as_u32 r >>= λ r. Some (s, r)
address_among _ = None

-- the rows of a list of pairs
abbrev pub rows_as : Data → Option (List (ℕ × ℕ))
rows_as d = as_list d >>= for_each as_address
