-- A list of numbers behind codes, with the ranges that the codes number.
use Rattle.std.specs.Prelude.{◌≡◌, ℕ, ◌<◌, ◌^◌, ◌≤◌, ◌&&◌, ◌==◌, Bool, true, List, map, length, take, Option}
use Rattle.std.specs.Int.{w64, is_in_range}
use Rattle.std.specs.List.{list_all}
use Rattle.col_common.specs.Reading.{◌>>=◌, only_if, parts_by_second}
use Rattle.col_bits.specs.Packed.{packed, items, width}
use Rattle.col_model.specs.Stats.{least_of, greatest_of}
use Rattle.col_model.specs.AddressList.{AddressFooter, address_footer, header_at, code_count, coded_number}

-- ranges, and the code of each number of a list
pub record Coded : Type 0 where
  pub ranges : List (ℕ × ℕ)
  pub codes : List ℕ

-- the numbers
abbrev pub numbers_of : Coded → List ℕ
numbers_of d = map (coded_number d.ranges) d.codes

-- a greater code stands for a greater number
abbrev pub NumbersRise : List (ℕ × ℕ) → Type 0
NumbersRise rs = (j k : ℕ) → 1 ≤ j → j < k → k ≤ code_count rs
    → coded_number rs j < coded_number rs k

-- each is a code, and the bounds of the footer are those of the numbers
abbrev pub are_codes : AddressFooter → List ℕ → Bool
are_codes f codes =
    list_all (is_in_range 1 (code_count f.ranges)) codes
    && (least_of (map (coded_number f.ranges) codes) == f.least)
    && (greatest_of (map (coded_number f.ranges) codes) == f.greatest)

-- the codes at the front of their footer
unfoldable pub coded_by : List ℕ → List ℕ → Option Coded
coded_by codes footer = do
  f ← address_footer footer
  found ← packed codes f.code_width f.count
  only_if (are_codes f found) (record { ranges = f.ranges; codes = found })

-- The ranges and the codes that the bytes spell: packed codes, the footer, and its length.
unfoldable pub coded_list : List ℕ → Option Coded
coded_list bytes = do
  parts ← parts_by_second w64 bytes
  coded_by parts.0 parts.1

-- a list with just so many codes
abbrev pub with_codes : ℕ → Coded → Option Coded
with_codes n d = only_if (length d.codes == n) d

-- the same behind a header, whose count is that of the codes
unfoldable pub headed_list : List ℕ → Option Coded
headed_list bytes = do
  header ← header_at bytes
  list ← coded_list header.1
  with_codes header.0 list

-- the codes that stand in bytes, by their footer
abbrev pub coded_in : AddressFooter → List ℕ → Coded
coded_in f bytes = record { ranges = f.ranges; codes = items bytes f.code_width 0 f.count }

-- the codes that stand in bytes are those of the footer
abbrev pub CodesAreRead : AddressFooter → List ℕ → Type 0
CodesAreRead f bytes = are_codes f (items bytes f.code_width 0 f.count) ≡ true

-- a reader of codes that are those of a footer, at its width
pub record IsReader (f : AddressFooter) (bytes : List ℕ) : Type 0 where
  pub width_is : f.code_width ≡ width (code_count f.ranges)
  pub few : code_count f.ranges < 2 ^ 32
  pub coded : CodesAreRead f bytes

-- the first bytes of others
pub record IsFrontOf (front bytes : List ℕ) : Type 0 where
  pub within : length front ≤ length bytes
  pub is : front ≡ take (length front) bytes
