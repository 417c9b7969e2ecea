-- Blocks of a list.
use Rattle.std.specs.Prelude.{◌≡◌, ◌<◌, ◌≤◌, ℕ, ◌+◌, ◌*◌, ◌/◌, ◌%◌, ◌^◌, List, length, map, drop, slice_index_or, Option}
use Rattle.std.specs.List.{AllByRecursion, range_with_len}
use Rattle.col_model.specs.Stats.{Stats, stats_of}
use Rattle.col_common.specs.Reading.{◌>>=◌, nothing_left, items}
use Rattle.col_model.specs.U64List.{LinearParams, params_at}
use Rattle.col_model.specs.Codecs.{block_size, block_count}
use Rattle.col_model.specs.Items.{linear_item, block_start}
use Rattle.col_codecs.specs.declared.line.Line.{Line}
use Rattle.col_codecs.specs.declared.blockwise_linear.block.Block.{Block}
use Rattle.col_codecs.specs.ColumnStats.{IsAbove}
use Rattle.col_codecs.specs.Line.{with_width}

-- the values of a block of a list with these statistics, none of which is below the least
pub record IsBlock (s : Stats) (values : List ℕ) : Type 0 where
  pub some : 0 < length values
  pub small : length values ≤ block_size
  pub above : AllByRecursion (IsAbove s) values

-- so many lines with their widths, and nothing else
abbrev pub lines_of : ℕ → List ℕ → Option (List LinearParams)
lines_of count bytes = items params_at count bytes >>= nothing_left

-- a block's line with the width of the offsets from it
abbrev pub block_params : Block → LinearParams
block_params b = with_width b.line b.bit_unpacker

-- the step at a place of a block
abbrev pub step_in : Block → List ℕ → ℕ → ℕ
step_in b bytes place = linear_item (block_params b) (drop b.start bytes) place

-- a block for a place that has none
abbrev pub no_block : Block
no_block =
    let level : Line = record { slope = 0; intercept = 0 } in
    record { line = level; bit_unpacker = 0; start = 0 }

-- block k of a list
abbrev pub block_of : List Block → ℕ → Block
block_of bs k = slice_index_or bs k no_block

-- the step of item i: that at its place of its block
abbrev pub step_of : List Block → List ℕ → ℕ → ℕ
step_of bs bytes i = step_in (block_of bs (i / block_size)) bytes (i % block_size)

-- the steps of the first n items
unfoldable pub steps_in : List Block → List ℕ → ℕ → List ℕ
steps_in bs bytes n = map (step_of bs bytes) (range_with_len 0 n)

-- the item that lies so many divisors above the least, modulo 2 ^ 64
abbrev pub item_of : Stats → ℕ → ℕ
item_of s k = (s.least + s.divisor * k) % 2 ^ 64

-- the items of a list with these statistics
abbrev pub items_in : Stats → List Block → List ℕ → List ℕ
items_in s bs bytes = map (item_of s) (steps_in bs bytes s.count)

-- each block begins within the bytes
abbrev pub AreWithin : List Block → List ℕ → Type 0
AreWithin bs bytes = (k : ℕ) → k < length bs → (block_of bs k).start ≤ length bytes

-- each block begins behind those before it, and within the bytes
pub record ArePlaced (n : ℕ) (bs : List Block) (bytes : List ℕ) : Type 0 where
  pub starts : (k : ℕ) → k < length bs →
      (block_of bs k).start ≡ block_start n (map block_params bs) k
  pub within : AreWithin bs bytes

-- there are as many blocks as the items need, each begins within the bytes, and the statistics are
-- the items' own
pub record IsReader (s : Stats) (bs : List Block) (bytes : List ℕ) : Type 0 where
  pub count : length bs ≡ block_count s.count
  pub within : AreWithin bs bytes
  pub exact : stats_of (items_in s bs bytes) ≡ s
