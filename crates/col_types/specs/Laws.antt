-- Laws of numbers and cells: public calls ensure them, and have nothing else to do.
use Rattle.std.specs.Prelude.{◌≡◌, ℤ, Option}
use Rattle.std.specs.declared.cmp.Ordering.{Ordering}
use Rattle.col_model.specs.ColumnType.{ColumnType}
use Rattle.col_model.specs.Lookup as lookup
use Rattle.col_model.specs.NumericalType.{accepts_i64}
use Rattle.col_model.specs.Table.{Cell}
use Rattle.col_values.specs.Monotonic.{Passes}
use Rattle.col_values.specs.Values as values
use Rattle.col_types.specs.Numbers.{fits_i64}

-- a cell lies between two exactly where its value lies between theirs
abbrev pub LieBetweenAlike : {T : Type 0} → (T → T → Option Ordering) → (T → Cell) → Type 0
LieBetweenAlike {T = T} partial_cmp cell = (low high v : T) →
    lookup.is_between (cell low) (cell high) (cell v) ≡ values.is_between partial_cmp low high v

-- each number that may be of type i64 is one that an i64 may be
abbrev pub AcceptedFit : Type 0
AcceptedFit = (p : ColumnType × ℤ) → Passes accepts_i64 p → Passes fits_i64 p
