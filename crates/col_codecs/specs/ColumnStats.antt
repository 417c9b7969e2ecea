-- What statistics and their collector stand for.
use Rattle.std.specs.Prelude.{◌≡◌, ◌≤◌, ◌<◌, ℕ, ◌+◌, ◌-◌, ◌*◌, List, length, map}
use Rattle.col_model.specs.Stats.{Stats, least_of, greatest_of, gcd_of, steps_of}
use Rattle.col_codecs.specs.declared.column_stats.ColumnStats.{ColumnStats}

-- the statistics that are held
abbrev pub stats_seen : ColumnStats → Stats
stats_seen s =
    record { least = s.min_value; greatest = s.max_value; divisor = s.gcd; count = s.num_rows }

-- Statistics that a list may have: the greatest value lies a whole count of divisors above the
-- least, the divisor is 1 where the bounds are one, and without values both bounds are 0.
pub record IsPossible (s : Stats) : Type 0 where
  pub ordered : s.least ≤ s.greatest
  pub positive : 0 < s.divisor
  pub top : s.least + s.divisor * steps_of s ≡ s.greatest
  pub flat : s.greatest ≤ s.least → s.divisor ≡ 1
  pub empty : s.count ≡ 0 → s.greatest ≡ 0

-- a value that isn't below the least, where the divisor isn't 0
abbrev pub IsAbove : Stats → ℕ → Type 0
IsAbove s x = (s.least ≤ x) × (0 < s.divisor)

-- what a collector holds: the bounds and the count of values, and the greatest common divisor of
-- their differences from the least, 0 where all of them are 0
pub record Collected : Type 0 where
  pub least : ℕ
  pub greatest : ℕ
  pub divisor : ℕ
  pub count : ℕ

-- what it holds behind these values
unfoldable pub collected_of : List ℕ → Collected
collected_of xs =
    let low = least_of xs in
    record {
      least = low;
      greatest = greatest_of xs;
      divisor = gcd_of (map (λ x. x - low) xs);
      count = length xs;
    }
