-- Values on a line, and an order of positions that they rise by.
use Rattle.std.specs.Prelude.{ℕ, ◌+◌, ◌-◌, ◌%◌, ◌^◌, ◌&&◌, nat_le, List, map, if◌then◌else◌}
use Rattle.std.specs.List.{range_with_len}
use Rattle.col_model.specs.Line.{line, signed_32}
use Rattle.col_codecs.specs.declared.line.Line.{Line}

-- the value at a position
abbrev pub on_line : Line → ℕ → ℕ
on_line l x = line l.slope l.intercept x

-- the values at n positions from a on
abbrev pub values_on : Line → ℕ → ℕ → List ℕ
values_on l a n = map (on_line l) (range_with_len a n)

-- How far upper halves of products are moved, modulo 2^32: then those that lower the value most come
-- first, or, where values pass 0 or 2^64, the one with the value 0.
abbrev pub shift_of : ℕ → ℕ
shift_of c = if nat_le (2 ^ 31) c && nat_le c (2 ^ 64 - 2 ^ 31) then 2 ^ 31 else c % 2 ^ 32

-- the value where the moved half is k
unfoldable pub lifted : ℕ → ℕ → ℕ
lifted c k = (c + signed_32 ((k + 2 ^ 32 - shift_of c) % 2 ^ 32)) % 2 ^ 64
