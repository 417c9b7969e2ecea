-- Lists of numbers below 2 ^ 128, by codes. States docs/FORMAT.md, section 5.
use Rattle.std.specs.Prelude.{ℕ, ◌+◌, ◌-◌, ◌^◌, ◌==◌, ◌&&◌, ◌||◌, nat_lt, nat_le, max, Bool, true, List, [], ◌∷◌, map, length, fold, sum_by, if◌then◌else◌, Option, Some}
use Rattle.std.specs.Int.{w64, is_in_range}
use Rattle.std.specs.List.{list_all}
use Rattle.col_common.specs.Reading.{◌>>=◌, only_if, byte_at, nothing_left, front, parts_by_second, items}
use Rattle.col_common.specs.VInt.{vint, vint_u128}
use Rattle.col_bits.specs.Packed.{packed, width}
use Rattle.std.specs.Ordering.{nat_cmp}
use Rattle.col_model.specs.Sorted.{distinct_items}
use Rattle.col_model.specs.Stats.{least_of, greatest_of}

-- how many numbers a range from start to end has
abbrev pub range_size : ℕ × ℕ → ℕ
range_size r = r.1 + 1 - r.0

-- how many numbers the ranges have: the greatest code
abbrev pub code_count : List (ℕ × ℕ) → ℕ
code_count rs = sum_by range_size rs

-- the number that code k stands for: the k-th of the ranges, counted from 1
unfoldable pub coded_number : List (ℕ × ℕ) → ℕ → ℕ
coded_number [] k = 0
coded_number (r ∷ rs) k =
    let later = coded_number rs (k - range_size r) in
    if nat_le k (range_size r) then r.0 + (k - 1) else later

-- the ranges that a list of pairs spells: how far each start lies above the end before it, and
-- how far its end above its start
unfoldable pub ranges_from : ℕ → List (ℕ × ℕ) → List (ℕ × ℕ)
ranges_from before [] = []
ranges_from before (p ∷ ps) =
    (before + p.0, before + p.0 + p.1) ∷ ranges_from (before + p.0 + p.1) ps

-- between two ranges at least three values are missing
abbrev pub are_apart : List (ℕ × ℕ) → Bool
are_apart [] = true
are_apart (p ∷ ps) = list_all (λ q. nat_le 4 q.0) ps

-- two numbers at the front, and the bytes behind them
abbrev pub pair_at : List ℕ → Option ((ℕ × ℕ) × List ℕ)
pair_at bytes = do
  p ← vint_u128 bytes
  q ← vint_u128 p.1
  Some ((p.0, q.0), q.1)

-- where the first range starts
abbrev pub first_start : List (ℕ × ℕ) → ℕ
first_start [] = 0
first_start (r ∷ rs) = r.0

-- where the last range ends
abbrev pub last_end : List (ℕ × ℕ) → ℕ
last_end rs = fold (λ e r. r.1) 0 rs

-- The ranges at the front, and the bytes behind them: at least one, apart, of numbers below
-- 2 ^ 128, with codes below 2 ^ 32.
unfoldable pub ranges_at : List ℕ → Option (List (ℕ × ℕ) × List ℕ)
ranges_at bytes = do
  n ← vint bytes
  ps ← items pair_at n.0 n.1
  let ranges = ranges_from 0 ps.0
  only_if (nat_le 1 n.0 && are_apart ps.0
      && nat_lt (last_end ranges) (2 ^ 128) && nat_lt (code_count ranges) (2 ^ 32)) (ranges, ps.1)

-- what is said of the numbers behind their codes
pub record AddressFooter : Type 0 where
  pub least : ℕ
  pub greatest : ℕ
  pub count : ℕ
  pub code_width : ℕ
  pub ranges : List (ℕ × ℕ)

-- all bytes are 0
abbrev pub are_zeros : List ℕ → Bool
are_zeros bytes = list_all (λ b. b == 0) bytes

-- what bounds and count show by themselves: the count is below 2 ^ 32; one number is the least
-- and the greatest; without numbers both are 0
abbrev pub are_bounds : ℕ → ℕ → ℕ → Bool
are_bounds least greatest count =
    nat_lt count (2 ^ 32) && (nat_le 2 count || (least == greatest))
    && (nat_le 1 count || (greatest == 0))

-- The footer at the front, and the bytes behind it: eight zero bytes, least and greatest number,
-- count, the width of the greatest code, the ranges from the least number to the greatest.
-- Without numbers it has the one range 0 to 0.
unfoldable pub address_footer_at : List ℕ → Option (AddressFooter × List ℕ)
address_footer_at bytes = do
  flags ← front 8 bytes
  least ← vint_u128 flags.1
  greatest ← vint_u128 least.1
  count ← vint_u128 greatest.1
  w ← byte_at count.1
  ranges ← ranges_at w.1
  let said : AddressFooter = record {
    least = least.0;
    greatest = greatest.0;
    count = count.0;
    code_width = w.0;
    ranges = ranges.0;
  }
  only_if (are_zeros flags.0 && are_bounds least.0 greatest.0 count.0
      && (w.0 == width (code_count ranges.0))
      && (first_start ranges.0 == least.0) && (last_end ranges.0 == greatest.0))
      (said, ranges.1)

-- the footer that all the bytes spell
abbrev pub address_footer : List ℕ → Option AddressFooter
address_footer bytes = address_footer_at bytes >>= nothing_left

-- the numbers that the packed codes stand for, by the footer behind them, whose length follows;
-- the bounds are those of the numbers
unfoldable pub coded_values : List ℕ → Option (List ℕ)
coded_values bytes = do
  parts ← parts_by_second w64 bytes
  f ← address_footer parts.1
  codes ← packed parts.0 f.code_width f.count
  let numbers = map (coded_number f.ranges) codes
  only_if (list_all (is_in_range 1 (code_count f.ranges)) codes
      && (least_of numbers == f.least) && (greatest_of numbers == f.greatest)) numbers

-- the count at the front, below 2 ^ 32, and the bytes behind the byte 1 that follows it
abbrev pub header_at : List ℕ → Option (ℕ × List ℕ)
header_at bytes = do
  n ← vint bytes
  kind ← byte_at n.1
  only_if (nat_lt n.0 (2 ^ 32) && (kind.0 == 1)) (n.0, kind.1)

-- The list that the bytes stand for: a count, the byte 1, as many codes, and the footer.
unfoldable pub values128 : List ℕ → Option (List ℕ)
values128 bytes = do
  header ← header_at bytes
  numbers ← coded_values header.1
  only_if (length numbers == header.0) numbers

-- how many codes a gap up to the next number costs: its size where that is one or two, else none
abbrev pub gap_codes : ℕ → ℕ → ℕ
gap_codes x y = if nat_le (y - x - 1) 2 then y - x - 1 else 0

-- how many codes an ascending list needs
abbrev pub codes_needed : List ℕ → ℕ
codes_needed [] = 0
codes_needed (x ∷ []) = 1
codes_needed (x ∷ y ∷ zs) = 1 + gap_codes x y + codes_needed (y ∷ zs)

-- How many numbers are in the list or in a gap of one or two numbers between two neighbours of
-- it; 1 for the empty list.
abbrev pub least_codes : List ℕ → ℕ
least_codes xs = max 1 (codes_needed (distinct_items nat_cmp xs))
