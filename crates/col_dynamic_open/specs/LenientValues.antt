-- What the numbers mean that stand for a column's values.
use Rattle.std.specs.Prelude.{◌≡◌, ℕ, Bool, true, false, List, Option, Some, None}
use Rattle.col_compact.specs.Coded.{Coded}
use Rattle.col_model.specs.AddressList.{coded_number}
use Rattle.col_model.specs.Column.{number_cell, term_cell}
use Rattle.col_model.specs.ColumnType.{ColumnType}
use Rattle.col_model.specs.ColumnType as types
use Rattle.col_model.specs.Stats.{least_of, greatest_of}
use Rattle.col_model.specs.Table.{Cell}
use Rattle.col_dynamic.specs.NumValues.{num_values_of}
use Rattle.col_dynamic.specs.NumValues as numbers
use Rattle.col_values.specs.Codes.{number_cmp}
use Rattle.col_dynamic_open.specs.declared.lenient.LenientValues.{LenientValues}
use Rattle.col_dynamic_open.specs.declared.lenient.LenientValues.TheVariants.{Num, Compact}

-- the numbers, in order
abbrev pub lenient_values_of : LenientValues → List ℕ
lenient_values_of (Num v) = num_values_of v
lenient_values_of (Compact d) = d.codes

-- the bounds that are told
abbrev pub IsLow : LenientValues → ℕ → Type 0
IsLow (Num v) n = numbers.IsLow number_cmp (λ x. x ≡ 0) v n
IsLow (Compact d) n = n ≡ least_of d.codes

abbrev pub IsHigh : LenientValues → ℕ → Type 0
IsHigh (Num v) n = numbers.IsHigh number_cmp (λ x. x ≡ 0) v n
IsHigh (Compact d) n = n ≡ greatest_of d.codes

-- the codes, with their ranges, where they are codes of addresses
abbrev pub codes_of : LenientValues → Option Coded
codes_of (Num v) = None
codes_of (Compact d) = Some d

-- they are codes of addresses
abbrev pub are_codes : LenientValues → Bool
are_codes (Num v) = false
are_codes (Compact d) = true

-- the number that each of them stands for: that of its code, or itself
abbrev pub decoded : LenientValues → ℕ → ℕ
decoded (Num v) n = n
decoded (Compact d) n = coded_number d.ranges n

-- the cell that a number stands for, in a column of this type and these terms
abbrev pub lenient_cell : ColumnType → List (List ℕ) → LenientValues → ℕ → Cell
lenient_cell types.str terms v n = term_cell terms n
lenient_cell types.bytes terms v n = term_cell terms n
lenient_cell types.i64 terms v n = number_cell types.i64 (decoded v n)
lenient_cell types.u64 terms v n = number_cell types.u64 (decoded v n)
lenient_cell types.bool terms v n = number_cell types.bool (decoded v n)
lenient_cell types.ip terms v n = number_cell types.ip (decoded v n)
lenient_cell types.datetime terms v n = number_cell types.datetime (decoded v n)
