-- What the fields of records are read as.
use Rattle.std.specs.Prelude.{◌≡◌, ◌<◌, ◌+◌, ◌^◌, ◌==◌, ◌||◌, ℕ, zero, suc, ℤ, negsuc, nat_lt, Bool, List, take, drop, position, decimal, Option, Some, None}
use Rattle.std.specs.Int.{is_in_range}
use Rattle.col_common.specs.Reading.{◌>>=◌, only_if}
use Rattle.col_model.specs.Keys.{Key}
use Rattle.col_csv.specs.Csv.{colon}
use Rattle.col_types.specs.Kinds.{kind_of}
use Rattle.col_types.specs.declared.column_type.ColumnType.{ColumnType}

-- the key of a type and a name
abbrev pub spelled_key : ColumnType × List ℕ → Key
spelled_key (t, name) = record { name = name; column_type = kind_of t }

-- what stands in front of the first colon, and what behind it
abbrev pub parts_at_colon : List ℕ → Option (List ℕ × List ℕ)
parts_at_colon s = position (λ b. b == colon) s >>= λ i. Some (take i s, drop (i + 1) s)

-- the number below 2 ^ 64 whose text in decimal this is; None where it is that of no such number
abbrev pub IsNumberOf : List ℕ → Option ℕ → Type 0
IsNumberOf text (Some n) = (n < 2 ^ 64) × (decimal n ≡ text)
IsNumberOf text None = (n : ℕ) → n < 2 ^ 64 → decimal n ≡ text → ⊥

-- a number below 0, where an i64 may be it
abbrev pub negated : ℕ → Option ℤ
negated zero = None
negated (suc n) = only_if (nat_lt n (2 ^ 63)) (negsuc n)

-- a hexadecimal digit that isn't a capital
abbrev pub is_lower_digit : ℕ → Bool
is_lower_digit c = is_in_range 48 57 c || is_in_range 97 102 c
