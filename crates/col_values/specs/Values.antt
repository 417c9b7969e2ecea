-- Values by position.
use Rattle.std.specs.Prelude.{◌≡◌, ℕ, ◌-◌, ◌&&◌, Bool, true, false, List, length, slice_get, filter, min, Option, Some, None}
use Rattle.std.specs.List.{All, range_with_len}
use Rattle.std.specs.Ordering.{partial_le}
use Rattle.std.specs.declared.cmp.Ordering.{Ordering}

-- one value is at most the other
abbrev pub IsAtMost : {T : Type 0} → (T → T → Option Ordering) → T → T → Type 0
IsAtMost partial_cmp a b = partial_le partial_cmp a b ≡ true

-- the value is one from low to high
abbrev pub is_between : {T : Type 0} → (T → T → Option Ordering) → T → T → T → Bool
is_between partial_cmp low high v = partial_le partial_cmp low v && partial_le partial_cmp v high

-- the value passes the test; none doesn't
abbrev pub passes : {T : Type 0} → (T → Bool) → Option T → Bool
passes test None = false
passes test (Some v) = test v

-- The n positions from a place on whose value passes the test, ascending.
unfoldable pub hits : {T : Type 0} → (T → Bool) → List T → ℕ → ℕ → List ℕ
hits test values from n = filter (λ row. passes test (slice_get values row)) (range_with_len from n)

-- how many positions there are from a place up to another, with those past the end cut off
abbrev pub span : ℕ → ℕ → ℕ → ℕ
span count from to = min to count - from

-- The positions from a place up to another whose value is one from low to high, ascending.
abbrev pub hits_between : {T : Type 0} → (T → T → Option Ordering) → List T → T → T → ℕ → ℕ → List ℕ
hits_between partial_cmp values low high from to =
    hits (is_between partial_cmp low high) values from (span (length values) from to)

-- no value is below the first or above the second
pub record Encloses {T : Type 0} (partial_cmp : T → T → Option Ordering) (low high : T)
    (values : List T) : Type 0 where
  pub below : All (IsAtMost partial_cmp low) values
  pub above : All (λ v. IsAtMost partial_cmp v high) values

-- a list of values with its bounds
pub record Bounded (T : Type 0) : Type 0 where
  pub values : List T
  pub low : T
  pub high : T
