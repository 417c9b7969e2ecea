-- Parts of the bytes of indexes.
use Rattle.std.specs.Prelude.{ℕ, ◌^◌, nat_lt, List, [], ◌∷◌, Option, None}
use Rattle.col_common.specs.Reading.{◌>>=◌, only_if}
use Rattle.col_common.specs.VInt.{vint}
use Rattle.col_model.specs.Index.{Shape, multivalued_in}
use Rattle.col_model.specs.Table.{Cardinality, cardinality_of_code}

-- a row count and the bytes behind it
abbrev pub row_count_at : List ℕ → Option (ℕ × List ℕ)
row_count_at bytes = vint bytes >>= λ n. only_if (nat_lt n.0 (2 ^ 32)) n

-- the cardinality of the first byte
abbrev pub first_byte_cardinality : List ℕ → Option Cardinality
first_byte_cardinality [] = None
first_byte_cardinality (code ∷ bytes) = cardinality_of_code code

-- the shape of a Multivalued index, in a file of this version
abbrev pub multivalued_at : ℕ → List ℕ → Option Shape
multivalued_at version bytes = multivalued_in version >>= λ by_version. by_version bytes
