-- Numbers as a column keeps them.
use Rattle.std.specs.Prelude.{◌≡◌, ◌<◌, ◌⊎◌, ℕ, [], ℤ, pos, ◌+◌, ◌-◌, ◌^◌, ◌%◌, List, map, ◌++◌, replicate}
use Rattle.col_model.specs.ColumnType.{ColumnType}
use Rattle.col_model.specs.ColumnType as types
use Rattle.col_model.specs.Column.{signed_of}
use Rattle.col_model.specs.Table.{Cell, number}
use Rattle.col_types.specs.Kinds.{numerical_kind_of}
use Rattle.col_types.specs.Numbers.{typed_number_of}
use Rattle.col_types.specs.declared.numerical_type.NumericalType.{NumericalType}
use Rattle.col_types.specs.declared.numerical_value.NumericalValue.{NumericalValue}

-- the type of a number
abbrev pub value_type : NumericalValue → ColumnType
value_type v = (typed_number_of v).0

-- the u64 that has a code
abbrev pub unsigned_of : ℕ → ℕ
unsigned_of code = (code + 2 ^ 63) % 2 ^ 64

-- The number of a type that has a code: the number plus 2^63 modulo 2^64 is the code of both types,
-- so that a u64 below 2^63 has the code that it has as an i64.
abbrev pub stored_number : ColumnType → ℕ → ℤ
stored_number types.u64 code = pos (unsigned_of code)
stored_number types.i64 code = signed_of code
stored_number types.bytes code = signed_of code
stored_number types.str code = signed_of code
stored_number types.bool code = signed_of code
stored_number types.ip code = signed_of code
stored_number types.datetime code = signed_of code

-- the cell of a point in time that has a code
abbrev pub time_cell : ℕ → Cell
time_cell code = number (signed_of code)

-- one type so many times, and others
unfoldable pub same_then : ℕ → NumericalType → List NumericalType → List ColumnType
same_then n first others =
    replicate n (numerical_kind_of first) ++ map numerical_kind_of others

-- nothing came behind the first type, which is the next one, too, or none came yet
pub record TypeGoesOn (first : NumericalType) (n : ℕ) (others : List NumericalType)
    (next : NumericalType) : Type 0 where
  pub alone : others ≡ []
  pub same : (n ≡ 0) ⊎ (first ≡ next)
  pub few : n < 2 ^ 32 - 1
