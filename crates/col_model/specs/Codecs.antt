-- What writers make of a list of numbers: its bytes under each codec, the estimates of their
-- lengths, and the choice. States docs/FORMAT.md, section 12.
use Rattle.std.specs.Prelude.{ℕ, zero, suc, ◌+◌, ◌-◌, ◌*◌, ◌/◌, ◌^◌, nat_lt, nat_le, Bool, true, List, [], ◌∷◌, ◌++◌, length, map, take, drop, flat_map, sum, if◌then◌else◌, Option, Some, None}
use Rattle.std.specs.Int.{w64, div_ceil, to_le_bytes}
use Rattle.std.specs.List.{enumerate_from, list_all}
use Rattle.col_common.specs.VInt.{vint_bytes}
use Rattle.col_bits.specs.Packed.{packed_bytes, width, binary_digits}
use Rattle.col_model.specs.Stats.{Stats, stats_of, steps_of, stats_bytes, least_of, greatest_of}
use Rattle.col_model.specs.Line.{line}
use Rattle.col_model.specs.Training.{less_wrapped, line_of}
pub use Rattle.col_model.specs.U64List.{block_size}
use Rattle.col_model.specs.U64List.{LinearParams, joined_lists}

-- how far an item at its position lies above a line, modulo 2 ^ 64
abbrev pub offset_from : LinearParams → ℕ × ℕ → ℕ
offset_from l p = less_wrapped p.1 (line l.slope l.intercept p.0)

-- the offsets of a list from a line
abbrev pub offsets_from : LinearParams → List ℕ → List ℕ
offsets_from l xs = map (offset_from l) (enumerate_from 0 xs)

-- the bytes of a line: slope, intercept, width
unfoldable pub params_bytes : LinearParams → List ℕ
params_bytes l = vint_bytes l.slope ++ (vint_bytes l.intercept ++ (l.offset_width ∷ []))

-- the offsets of a list from a line, packed
abbrev pub packed_offsets : LinearParams → List ℕ → List ℕ
packed_offsets l xs = packed_bytes l.offset_width (offsets_from l xs)

-- half of the numbers below 2 ^ 64, without one
abbrev pub half_space : ℕ
half_space = 2 ^ 63 - 1

-- how far an item at its position lies above a line, moved up by half of the space, modulo 2 ^ 64
abbrev pub deviation : ℕ × ℕ → ℕ × ℕ → ℕ
deviation l p = less_wrapped (p.1 + half_space) (line l.0 l.1 p.0)

-- the deviations of a list from a line
abbrev pub deviations : ℕ × ℕ → List ℕ → List ℕ
deviations l xs = map (deviation l) (enumerate_from 0 xs)

-- The line of a list under Linear: trained on the first 512 items, and raised by the least
-- deviation; the width is that of the greatest deviation less the least.
unfoldable pub linear_line : List ℕ → LinearParams
linear_line xs =
    let l = line_of (take block_size xs) in
    let low = least_of (deviations l xs) in
    record {
      slope = l.0;
      intercept = less_wrapped (l.1 + low) half_space;
      offset_width = width (greatest_of (deviations l xs) - low);
    }

-- the bytes of a list under Linear, behind the codec's code
unfoldable pub linear_body : List ℕ → List ℕ
linear_body xs =
    let l = linear_line xs in
    stats_bytes (stats_of xs) ++ (params_bytes l ++ packed_offsets l xs)

-- k blocks of a list, the last one maybe shorter
unfoldable pub cut_blocks : ℕ → List ℕ → List (List ℕ)
cut_blocks zero xs = []
cut_blocks (suc k) xs = take block_size xs ∷ cut_blocks k (drop block_size xs)

-- how many blocks n items take
abbrev pub block_count : ℕ → ℕ
block_count n = div_ceil n block_size

-- the blocks of a list
abbrev pub blocks_of : List ℕ → List (List ℕ)
blocks_of xs = cut_blocks (block_count (length xs)) xs

-- The line of a block: trained on all of it; the width is the greatest of those of the offsets.
unfoldable pub block_line : List ℕ → LinearParams
block_line xs =
    let l = line_of xs in
    let bare : LinearParams = record { slope = l.0; intercept = l.1; offset_width = 0 } in
    let w = width (greatest_of (offsets_from bare xs)) in
    record { slope = l.0; intercept = l.1; offset_width = w }

-- a block's offsets from its line, packed
abbrev pub packed_block : List ℕ → List ℕ
packed_block xs = packed_offsets (block_line xs) xs

-- the bytes of the blocks' lines
abbrev pub lines_bytes : List (List ℕ) → List ℕ
lines_bytes bs = flat_map (λ b. params_bytes (block_line b)) bs

-- blocks, their lines, and the length of the lines
unfoldable pub blocks_bytes : List (List ℕ) → List ℕ
blocks_bytes bs =
    joined_lists (map packed_block bs)
    ++ (lines_bytes bs ++ to_le_bytes w64 (length (lines_bytes bs)))

-- for each item, how many divisors it lies above the least
abbrev pub steps_above : Stats → List ℕ → List ℕ
steps_above s xs = map (λ x. (x - s.least) / s.divisor) xs

-- the bytes of a list under BlockwiseLinear, behind the codec's code
unfoldable pub blockwise_body : List ℕ → List ℕ
blockwise_body xs =
    let s = stats_of xs in stats_bytes s ++ blocks_bytes (blocks_of (steps_above s xs))

-- the bytes of a list under Bitpacked, behind the codec's code
unfoldable pub bitpacked_body : List ℕ → List ℕ
bitpacked_body xs =
    let s = stats_of xs in
    stats_bytes s ++ packed_bytes (width (steps_of s)) (steps_above s xs)

-- the bytes of slope and intercept
abbrev pub line_len : LinearParams → ℕ
line_len l = length (vint_bytes l.slope) + length (vint_bytes l.intercept)

-- the bytes that n items of w bits take
abbrev pub packed_len : ℕ → ℕ → ℕ
packed_len n w = div_ceil (n * w) 8

-- the bytes of a list's statistics
abbrev pub stats_len : List ℕ → ℕ
stats_len xs = length (stats_bytes (stats_of xs))

-- the estimate of Bitpacked
unfoldable pub bitpacked_estimate : List ℕ → ℕ
bitpacked_estimate xs = stats_len xs + packed_len (length xs) (width (steps_of (stats_of xs)))

-- the estimate of Linear, none below 512 items
unfoldable pub linear_estimate : List ℕ → Option ℕ
linear_estimate xs =
    let l = linear_line xs in
    let size = stats_len xs + line_len l + 1 + packed_len (length xs) l.offset_width in
    if nat_lt (length xs) block_size then None else Some size

-- what a block adds to the estimate of BlockwiseLinear
abbrev pub block_estimate : List ℕ → ℕ
block_estimate b = let l = block_line b in 1 + line_len l + packed_len (length b) l.offset_width

-- the binary logarithm of a number that isn't 0, rounded down
abbrev pub log2 : ℕ → ℕ
log2 n = binary_digits 64 n - 1

-- The estimate of BlockwiseLinear, by the items themselves; a divisor is taken off each item's
-- bits.
unfoldable pub blockwise_estimate : List ℕ → ℕ
blockwise_estimate xs =
    8 + stats_len xs + sum (map block_estimate (blocks_of xs))
    - log2 (stats_of xs).divisor * length xs / 8

-- the estimate of a codec, by its code
abbrev pub estimate : List ℕ → ℕ → Option ℕ
estimate xs zero = Some (bitpacked_estimate xs)
estimate xs (suc zero) = linear_estimate xs
estimate xs (suc (suc zero)) = Some (blockwise_estimate xs)
estimate xs (suc (suc (suc _))) = None

-- an estimate isn't below e; none isn't
abbrev pub is_not_below : ℕ → Option ℕ → Bool
is_not_below e None = true
is_not_below e (Some f) = nat_le e f

-- a codec with its estimate, where no later codec's is below it; else the one chosen of the later
-- ones
abbrev pub chosen_before : List ℕ → ℕ → List ℕ → Option ℕ → Option ℕ → Option ℕ
chosen_before xs c cs later None = later
chosen_before xs c cs later (Some e) =
    if list_all (λ d. is_not_below e (estimate xs d)) cs then Some c else later

-- The codec that is written: the first of those offered that has the least estimate; none where
-- none has an estimate.
unfoldable pub chosen_codec : List ℕ → List ℕ → Option ℕ
chosen_codec xs [] = None
chosen_codec xs (c ∷ cs) =
    let later = chosen_codec xs cs in chosen_before xs c cs later (estimate xs c)

-- the bytes of a list under a codec, behind the codec's code
abbrev pub body_by : ℕ → List ℕ → List ℕ
body_by zero xs = bitpacked_body xs
body_by (suc zero) xs = linear_body xs
body_by (suc (suc _)) xs = blockwise_body xs

-- the bytes of a list under a codec, by its code
abbrev pub codec_bytes : ℕ → List ℕ → List ℕ
codec_bytes codec xs = codec ∷ body_by codec xs
