-- Items of lists under Linear and BlockwiseLinear, each read where it stands. The lists are those
-- of docs/FORMAT.md, section 4.
use Rattle.std.specs.Prelude.{ℕ, zero, suc, ◌+◌, ◌-◌, ◌*◌, ◌/◌, ◌%◌, ◌^◌, ◌==◌, ◌&&◌, nat_le, Bool, List, [], ◌∷◌, length, map, take, drop, slice_index_or}
use Rattle.std.specs.Int.{div_ceil}
use Rattle.std.specs.List.{range_with_len}
use Rattle.col_bits.specs.Packed.{item, is_packed}
use Rattle.col_model.specs.Stats.{Stats}
use Rattle.col_model.specs.Line.{line}
use Rattle.col_model.specs.U64List.{LinearParams, block_size, block_len}

-- item i of a list above a line, whose packed offsets are at the front of the bytes
abbrev pub linear_item : LinearParams → List ℕ → ℕ → ℕ
linear_item l bytes i = (line l.slope l.intercept i + item bytes l.offset_width i) % 2 ^ 64

-- the first n items
abbrev pub linear_items : LinearParams → List ℕ → ℕ → List ℕ
linear_items l bytes n = map (linear_item l bytes) (range_with_len 0 n)

-- how many bytes the first of the blocks of n items takes
abbrev pub block_bytes : ℕ → LinearParams → ℕ
block_bytes n l = div_ceil (block_len n * l.offset_width) 8

-- where block k begins: behind the blocks before it
unfoldable pub block_start : ℕ → List LinearParams → ℕ → ℕ
block_start n [] k = 0
block_start n (l ∷ ls) zero = 0
block_start n (l ∷ ls) (suc k) = block_bytes n l + block_start (n - block_size) ls k

-- the bytes are blocks with these lines, n items in all, each of them packed, and nothing else
unfoldable pub are_blocks : ℕ → List LinearParams → List ℕ → Bool
are_blocks n [] bytes = length bytes == 0
are_blocks n (l ∷ ls) bytes =
    let later = are_blocks (n - block_size) ls (drop (block_bytes n l) bytes) in
    nat_le (block_bytes n l) (length bytes)
    && is_packed (take (block_bytes n l) bytes) (block_len n * l.offset_width) && later

-- a line for a place that no block has
abbrev pub no_line : LinearParams
no_line = record { slope = 0; intercept = 0; offset_width = 0 }

-- item i of n items in blocks with these lines: that at its place of its block
abbrev pub block_item : ℕ → List LinearParams → List ℕ → ℕ → ℕ
block_item n ls bytes i =
    linear_item (slice_index_or ls (i / block_size) no_line)
    (drop (block_start n ls (i / block_size)) bytes) (i % block_size)

-- item i of the list: the least, and the divisor for each step
abbrev pub blockwise_item : Stats → List LinearParams → List ℕ → ℕ → ℕ
blockwise_item s ls bytes i = (s.least + s.divisor * block_item s.count ls bytes i) % 2 ^ 64

-- all items of the list
abbrev pub blockwise_items : Stats → List LinearParams → List ℕ → List ℕ
blockwise_items s ls bytes = map (blockwise_item s ls bytes) (range_with_len 0 s.count)
