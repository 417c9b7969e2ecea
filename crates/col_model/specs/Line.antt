-- A line through positions, in whole numbers. States docs/FORMAT.md, section 4.
use Rattle.std.specs.Prelude.{ℕ, ◌+◌, ◌-◌, ◌*◌, ◌/◌, ◌%◌, ◌^◌, nat_lt, List, if◌then◌else◌, Option, Some}
use Rattle.col_common.specs.Reading.{◌>>=◌}
use Rattle.col_common.specs.VInt.{vint}

-- a number below 2 ^ 32 read as a signed one, modulo 2 ^ 64
abbrev pub signed_32 : ℕ → ℕ
signed_32 h = if nat_lt h (2 ^ 31) then h else h + (2 ^ 64 - 2 ^ 32)

-- the line's value at x: the intercept plus the upper 32 bits of x * slope modulo 2 ^ 64, read as
-- a signed number, modulo 2 ^ 64
unfoldable pub line : ℕ → ℕ → ℕ → ℕ
line slope intercept x = (intercept + signed_32 (x * slope % 2 ^ 64 / 2 ^ 32)) % 2 ^ 64

-- the slope and the intercept of the line at the front, and the bytes behind them
abbrev pub line_at : List ℕ → Option ((ℕ × ℕ) × List ℕ)
line_at bytes = do
  slope ← vint bytes
  intercept ← vint slope.1
  Some ((slope.0, intercept.0), intercept.1)
