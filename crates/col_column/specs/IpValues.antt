-- What lists of addresses mean: an address is seen as its number.
use Rattle.std.specs.Prelude.{◌≡◌, ℕ, List, []}
use Rattle.col_values.specs.Bounds.{AreToldExactly}
use Rattle.col_values.specs.Codes.{number_cmp}
use Rattle.col_column.specs.declared.ip_values.IpValues.{IpValues}
use Rattle.col_column.specs.declared.ip_values.IpValues.TheVariants.{Read, Empty}

-- the addresses, in order
abbrev pub ip_values_of : IpValues → List ℕ
ip_values_of (Read c) = c.values
ip_values_of (Empty _) = []

-- the bounds that are told
abbrev pub IsLow : IpValues → ℕ → Type 0
IsLow (Read c) v = v ≡ c.low
IsLow (Empty _) v = v ≡ 0

abbrev pub IsHigh : IpValues → ℕ → Type 0
IsHigh (Read c) v = v ≡ c.high
IsHigh (Empty _) v = v ≡ 0

-- whatever is told of the bounds, they are the least and the greatest address, and 0 without one
abbrev pub HasExactBounds : IpValues → Type 0
HasExactBounds v = AreToldExactly number_cmp (λ n. n ≡ 0) (ip_values_of v) (IsLow v) (IsHigh v)
