-- Lists of numbers below 2 ^ 64. States docs/FORMAT.md, section 4.
use Rattle.std.specs.Prelude.{ℕ, zero, suc, ◌+◌, ◌-◌, ◌*◌, ◌/◌, ◌%◌, ◌^◌, List, [], ◌∷◌, ◌++◌, map, min, Option, Some, None}
use Rattle.std.specs.Int.{w64, div_ceil}
use Rattle.std.specs.List.{enumerate_from}
use Rattle.col_common.specs.Reading.{◌>>=◌, only_if, byte_at, nothing_left, front, parts_by_second, items}
use Rattle.col_bits.specs.Packed.{packed, packed_bytes, width, is_width}
use Rattle.col_model.specs.Stats.{Stats, stats_of, same_stats, steps_of, stats_at, stats_bytes}
use Rattle.col_model.specs.Line.{line, line_at}

-- Codec 0, Bitpacked: for each item, how many divisors it lies above the least, at the width of
-- the greatest such count.
unfoldable pub bitpacked_values : Stats → List ℕ → Option (List ℕ)
bitpacked_values s bytes =
    packed bytes (width (steps_of s)) s.count
    >>= λ steps. Some (map (λ k. s.least + s.divisor * k) steps)

-- the width that the first byte names, and the other bytes
abbrev pub width_at : List ℕ → Option (ℕ × List ℕ)
width_at bytes = byte_at bytes >>= λ w. only_if (is_width w.0) w

-- a line, and the width of the offsets from it
pub record LinearParams : Type 0 where
  pub slope : ℕ
  pub intercept : ℕ
  pub offset_width : ℕ

-- the line and the width byte at the front, and the bytes behind them
unfoldable pub params_at : List ℕ → Option (LinearParams × List ℕ)
params_at bytes = do
  l ← line_at bytes
  w ← width_at l.1
  Some (record { slope = l.0.0; intercept = l.0.1; offset_width = w.0 }, w.1)

-- the line's value at the offset's place plus the offset, modulo 2 ^ 64
abbrev pub above_line : LinearParams → ℕ × ℕ → ℕ
above_line l p = (line l.slope l.intercept p.0 + p.1) % 2 ^ 64

-- Codec 1, Linear: a line, and each item's offset from it.
unfoldable pub linear_values : Stats → List ℕ → Option (List ℕ)
linear_values s bytes = do
  l ← params_at bytes
  offsets ← packed l.1 l.0.offset_width s.count
  Some (map (above_line l.0) (enumerate_from 0 offsets))

-- how many items a block has, and how many a line is trained on
abbrev pub block_size : ℕ
block_size = 512

-- how many of n items stand in the first block
abbrev pub block_len : ℕ → ℕ
block_len n = min n block_size

-- what the blocks stand for: n items in blocks, each with its line, and each beginning at a byte
unfoldable pub blocks : ℕ → List LinearParams → List ℕ → Option (List (List ℕ) × List ℕ)
blocks n [] bytes = Some ([], bytes)
blocks n (l ∷ ls) bytes = do
  part ← front (div_ceil (block_len n * l.offset_width) 8) bytes
  offsets ← packed part.0 l.offset_width (block_len n)
  rest ← blocks (n - block_size) ls part.1
  Some (map (above_line l) (enumerate_from 0 offsets) ∷ rest.0, rest.1)

-- one list after another
abbrev pub joined_lists : {A : Type 0} → List (List A) → List A
joined_lists [] = []
joined_lists (xs ∷ xss) = xs ++ joined_lists xss

-- Codec 2, BlockwiseLinear: blocks of items, then a line for each block, then the length of
-- the lines. An item is the least plus the divisor times its block's line and offset.
unfoldable pub blockwise_values : Stats → List ℕ → Option (List ℕ)
blockwise_values s bytes = do
  parts ← parts_by_second w64 bytes
  lines ← items params_at (div_ceil s.count block_size) parts.1 >>= nothing_left
  values ← blocks s.count lines parts.0 >>= nothing_left
  Some (map (λ k. (s.least + s.divisor * k) % 2 ^ 64) (joined_lists values))

-- the items behind the statistics, by the codec's code
abbrev pub values_by : ℕ → Stats → List ℕ → Option (List ℕ)
values_by zero s bytes = bitpacked_values s bytes
values_by (suc zero) s bytes = linear_values s bytes
values_by (suc (suc zero)) s bytes = blockwise_values s bytes
values_by (suc (suc (suc _))) s bytes = None

-- The list that the bytes stand for: a codec byte, statistics, items. The statistics are those of
-- the list.
unfoldable pub values64 : List ℕ → Option (List ℕ)
values64 [] = None
values64 (codec ∷ bytes) = do
  s ← stats_at bytes
  xs ← values_by codec s.0 s.1
  only_if (same_stats (stats_of xs) s.0) xs

-- the one form of a list under Bitpacked
abbrev pub bitpacked_bytes : List ℕ → List ℕ
bitpacked_bytes xs =
    let s = stats_of xs in
    let steps = map (λ x. (x - s.least) / s.divisor) xs in
    0 ∷ (stats_bytes s ++ packed_bytes (width (steps_of s)) steps)
