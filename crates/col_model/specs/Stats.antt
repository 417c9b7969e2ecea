-- What is said of a list of numbers before it. States docs/FORMAT.md, section 3.
use Rattle.std.specs.Prelude.{ℕ, zero, suc, ◌+◌, ◌-◌, ◌*◌, ◌/◌, ◌%◌, ◌^◌, ◌==◌, ◌&&◌, ◌||◌, nat_lt, nat_le, min, max, Bool, List, [], ◌∷◌, length, map, fold, ◌++◌, if◌then◌else◌, Option}
use Rattle.col_common.specs.Reading.{◌>>=◌, only_if}
use Rattle.col_common.specs.VInt.{vint, vint_bytes}

-- the greatest common divisor, by remainders, where b is below k
abbrev pub gcd_within : ℕ → ℕ → ℕ → ℕ
gcd_within zero a b = a
gcd_within (suc k) a b = let next = gcd_within k b (a % b) in if b == 0 then a else next

-- the greatest common divisor of two numbers
abbrev pub gcd : ℕ → ℕ → ℕ
gcd a b = gcd_within (b + 1) a b

-- the greatest common divisor of some numbers, 0 of none
abbrev pub gcd_of : List ℕ → ℕ
gcd_of xs = fold gcd 0 xs

-- the least item, 0 of none
abbrev pub least_of : List ℕ → ℕ
least_of [] = 0
least_of (x ∷ xs) = fold min x xs

-- the greatest item, 0 of none
abbrev pub greatest_of : List ℕ → ℕ
greatest_of xs = fold max 0 xs

-- what is said of a list
pub record Stats : Type 0 where
  pub least : ℕ
  pub greatest : ℕ
  pub divisor : ℕ
  pub count : ℕ

-- 1 in place of 0
abbrev pub at_least_one : ℕ → ℕ
at_least_one n = max 1 n

-- The least and the greatest item, the greatest common divisor of the differences from the least,
-- and the count. The divisor is 1 where all differences are 0.
unfoldable pub stats_of : List ℕ → Stats
stats_of xs =
    let low = least_of xs in
    record {
      least = low;
      greatest = greatest_of xs;
      divisor = at_least_one (gcd_of (map (λ x. x - low) xs));
      count = length xs;
    }

-- equal in each part
abbrev pub same_stats : Stats → Stats → Bool
same_stats a b =
    (a.least == b.least) && (a.greatest == b.greatest) && (a.divisor == b.divisor)
    && (a.count == b.count)

-- how many divisors the greatest item lies above the least
abbrev pub steps_of : Stats → ℕ
steps_of s = (s.greatest - s.least) / s.divisor

-- what statistics show by themselves: the greatest item fits 64 bits and the count 32, the
-- divisor isn't 0, and is 1 where all items are one; without items both bounds are 0
abbrev pub are_possible : ℕ → ℕ → ℕ → ℕ → Bool
are_possible least divisor steps count =
    nat_le 1 divisor && nat_lt (least + divisor * steps) (2 ^ 64) && nat_lt count (2 ^ 32)
    && (nat_le 1 steps || (divisor == 1)) && (nat_le 1 count || ((least == 0) && (steps == 0)))

-- The statistics at the front, and the bytes behind them: least item, divisor, steps and count.
unfoldable pub stats_at : List ℕ → Option (Stats × List ℕ)
stats_at bytes = do
  least ← vint bytes
  divisor ← vint least.1
  steps ← vint divisor.1
  count ← vint steps.1
  let s : Stats = record {
    least = least.0;
    greatest = least.0 + divisor.0 * steps.0;
    divisor = divisor.0;
    count = count.0;
  }
  only_if (are_possible least.0 divisor.0 steps.0 count.0) (s, count.1)

-- the bytes of statistics
abbrev pub stats_bytes : Stats → List ℕ
stats_bytes s =
    vint_bytes s.least ++ (vint_bytes s.divisor ++ (vint_bytes (steps_of s) ++ vint_bytes s.count))
