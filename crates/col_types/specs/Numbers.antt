-- Single numbers of i64 or u64. States docs/RULES.md, The numerical type.
use Rattle.std.specs.Prelude.{◌≡◌, ℕ, ℤ, pos, ◌^◌, ◌<◌, int_lt, Bool, true, List, Result, MatchResult, FitsSigned, if◌then◌else◌}
use Rattle.std.specs.Int.{w64}
use Rattle.std.specs.Str.Parse.{IsNumeral, digits_value, signed_digits_value, without_leading_plus, without_leading_sign}
use Rattle.col_model.specs.ColumnType as types
use Rattle.col_types.specs.declared.numerical_value.NumericalValue.{NumericalValue}
use Rattle.col_types.specs.declared.numerical_value.NumericalValue.TheVariants.{I64, U64}

-- a number with its type
abbrev pub typed_number_of : NumericalValue → types.ColumnType × ℤ
typed_number_of (I64 z) = (types.i64, z)
typed_number_of (U64 n) = (types.u64, pos n)

-- the number
abbrev pub number_of : NumericalValue → ℤ
number_of v = (typed_number_of v).1

-- i64 for each number that an i64 may be, u64 for those above
abbrev pub narrowest : ℤ → types.ColumnType
narrowest z = if int_lt z (pos (2 ^ 63)) then types.i64 else types.u64

-- a number as i64 or u64 is one that an i64 may be
abbrev pub fits_i64 : types.ColumnType × ℤ → Bool
fits_i64 (types.u64, z) = int_lt z (pos (2 ^ 63))
fits_i64 (types.i64, z) = true
fits_i64 (types.bytes, z) = true
fits_i64 (types.str, z) = true
fits_i64 (types.bool, z) = true
fits_i64 (types.ip, z) = true
fits_i64 (types.datetime, z) = true

-- the text of an i64, as std reads it
abbrev pub IsTextOfI64 : List ℕ → Type 0
IsTextOfI64 text = IsNumeral 10 (without_leading_sign text)
    × FitsSigned w64 (signed_digits_value 10 text)

-- the text of a u64
abbrev pub IsTextOfU64 : List ℕ → Type 0
IsTextOfU64 text = IsNumeral 10 (without_leading_plus text)
    × (digits_value 10 (without_leading_plus text) < 2 ^ 64)

-- the number that a text is read as: an i64 where it is the text of one, else a u64
abbrev pub IsReadAs : List ℕ → NumericalValue → Type 0
IsReadAs text (I64 z) = IsTextOfI64 text × (z ≡ signed_digits_value 10 text)
IsReadAs text (U64 n) = (¬ IsTextOfI64 text) × IsTextOfU64 text
    × (n ≡ digits_value 10 (without_leading_plus text))

-- what a text is read as, and a refusal where it is the text of no number
abbrev pub ReadsNumber : {E : Type 0} → List ℕ → Result NumericalValue E → Type 0
ReadsNumber text result = MatchResult result (IsReadAs text)
    (λ _. (¬ IsTextOfI64 text) × (¬ IsTextOfU64 text))
