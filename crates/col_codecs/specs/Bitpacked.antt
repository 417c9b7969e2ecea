-- Lists under Bitpacked, each item read where it stands, behind their statistics.
use Rattle.std.specs.Prelude.{◌≡◌, ◌<◌, ℕ, ◌+◌, ◌*◌, ◌^◌, List, map}
use Rattle.std.specs.List.{range_with_len}
use Rattle.col_bits.specs.Packed.{item, width}
use Rattle.col_model.specs.Stats.{Stats, steps_of, stats_of}

-- item i of the list: the least, and the divisor for each step
abbrev pub bitpacked_item : Stats → List ℕ → ℕ → ℕ
bitpacked_item s bytes i = s.least + s.divisor * item bytes (width (steps_of s)) i

-- all items of the list
unfoldable pub bitpacked_items : Stats → List ℕ → List ℕ
bitpacked_items s bytes = map (bitpacked_item s bytes) (range_with_len 0 s.count)

-- a reader at the width of the steps, whose items fit 64 bits, and whose statistics are theirs
pub record IsReader (s : Stats) (w : ℕ) (bytes : List ℕ) : Type 0 where
  pub width_is : w ≡ width (steps_of s)
  pub positive : 0 < s.divisor
  pub fits : (i : ℕ) → i < s.count → bitpacked_item s bytes i < 2 ^ 64
  pub exact : stats_of (bitpacked_items s bytes) ≡ s
