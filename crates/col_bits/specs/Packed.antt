-- Numbers of a fixed count of bits, one after another. States docs/FORMAT.md, section 2.
use Rattle.std.specs.Prelude.{ℕ, zero, suc, ◌+◌, ◌*◌, ◌/◌, ◌%◌, ◌^◌, ◌==◌, ◌&&◌, ◌||◌, nat_lt, nat_le, Bool, List, [], ◌∷◌, length, map, filter, if◌then◌else◌, Option, Some, None}
use Rattle.std.specs.Int.{div_ceil, is_in_range}
use Rattle.std.specs.List.{range_with_len}

-- the number with these digits in a base, the lowest digit first
abbrev pub number_of : ℕ → List ℕ → ℕ
number_of base [] = 0
number_of base (d ∷ ds) = d + base * number_of base ds

-- the k lowest digits of a number in a base, the lowest first
abbrev pub digits : ℕ → ℕ → ℕ → List ℕ
digits base zero n = []
digits base (suc k) n = n % base ∷ digits base k (n / base)

-- there are just the bytes that so many bits take, and the spare bits are 0
abbrev pub is_packed : List ℕ → ℕ → Bool
is_packed bytes bits = (length bytes == div_ceil bits 8) && nat_lt (number_of 256 bytes) (2 ^ bits)

-- The n items of w bits: read as one number, the lowest byte first, the bytes have them as digits
-- in base 2 ^ w. There are just the bytes that n * w bits take, and the spare bits are 0.
unfoldable pub packed : List ℕ → ℕ → ℕ → Option (List ℕ)
packed bytes w n =
    if is_packed bytes (n * w) then Some (digits (2 ^ w) n (number_of 256 bytes)) else None

-- item i of w bits: bits i * w to i * w + w - 1 of the bytes, as one number
abbrev pub item : List ℕ → ℕ → ℕ → ℕ
item bytes w i = number_of 256 bytes / 2 ^ (i * w) % 2 ^ w

-- n items of w bits, from item a on
abbrev pub items : List ℕ → ℕ → ℕ → ℕ → List ℕ
items bytes w a n = map (item bytes w) (range_with_len a n)

-- which of the n ids from a on have an item from low to high, ascending
unfoldable pub ids_between : List ℕ → ℕ → ℕ → ℕ → ℕ → ℕ → List ℕ
ids_between bytes w low high a n =
    filter (λ id. is_in_range low high (item bytes w id)) (range_with_len a n)

-- the bytes of items of w bits
abbrev pub packed_bytes : ℕ → List ℕ → List ℕ
packed_bytes w items = digits 256 (div_ceil (length items * w) 8) (number_of (2 ^ w) items)

-- how many binary digits a number below 2 ^ k has
abbrev pub binary_digits : ℕ → ℕ → ℕ
binary_digits zero n = 0
binary_digits (suc k) n = if n == 0 then 0 else 1 + binary_digits k (n / 2)

-- the width of a number below 2 ^ 64: its count of binary digits where that is at most 56, else 64
abbrev pub width : ℕ → ℕ
width n = if nat_lt n (2 ^ 56) then binary_digits 56 n else 64

-- a width that a file may name
abbrev pub is_width : ℕ → Bool
is_width w = nat_le w 56 || (w == 64)
