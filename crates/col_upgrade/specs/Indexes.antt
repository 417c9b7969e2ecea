-- Indexes that are written again.
use Rattle.std.specs.Prelude.{◌≡◌, ℕ, ◌<◌, ◌^◌, ◌-◌, ◌==◌, ◌&&◌, not, nat_le, false, List, [], ◌∷◌, sum, count_by, Some}
use Rattle.col_model.specs.Index.{Counts, Shape, counts_over, counts}
use Rattle.col_model.specs.Limits.{is_multivalued}
use Rattle.col_model.specs.Version.{current_version}

-- There is one shape alone. It counts so many rows, and 32 bits count their values; where it is
-- Multivalued, its rows with a value are fewer than the limit.
pub record IsAlone (n : ℕ) (shapes : List Shape) : Type 0 where
  pub only : Shape
  pub alone : shapes ≡ only ∷ []
  pub counted : Counts
  pub read : counts_over n only ≡ Some counted
  pub few : sum counted.of_rows < 2 ^ 32
  pub within : (is_multivalued counted.cardinality
      && nat_le (2 ^ 32 - 1) (count_by (λ c. not (c == 0)) counted.of_rows)) ≡ false

-- Bytes of the current version count what the only shape does.
abbrev pub CountsAlone : ℕ → List Shape → List ℕ → Type 0
CountsAlone n shapes made = (s : Shape) → shapes ≡ s ∷ []
    → counts made current_version n ≡ counts_over n s
