-- Lists of numbers seen as values of a type.
use Rattle.std.specs.Prelude.{◌≡◌, ℕ, ◌<◌, ◌^◌, ◌&&◌, Bool, List, [], length, Contains, Option}
use Rattle.std.specs.List.{All}
use Rattle.std.specs.declared.cmp.Ordering.{Ordering}
use Rattle.col_values.specs.Values.{IsAtMost}
use Rattle.col_values.specs.Codes.{is_below}

-- the map takes the number to the number of a value
abbrev pub is_seen : (ℕ → Bool) → (ℕ → ℕ) → (ℕ → Bool) → ℕ → Bool
is_seen is_in there is_code n = is_in n && (is_below (2 ^ 64) (there n) && is_code (there n))

-- without values a default, else one of them that none is below
pub record IsLeastOf {T : Type 0} (partial_cmp : T → T → Option Ordering)
    (is_default : T → Type 0) (values : List T) (v : T) : Type 0 where
  pub without_values : values ≡ [] → is_default v
  pub value : 0 < length values → Contains values v
  pub below : All (IsAtMost partial_cmp v) values

-- without values a default, else one of them that none is above
pub record IsGreatestOf {T : Type 0} (partial_cmp : T → T → Option Ordering)
    (is_default : T → Type 0) (values : List T) (v : T) : Type 0 where
  pub without_values : values ≡ [] → is_default v
  pub value : 0 < length values → Contains values v
  pub above : All (λ x. IsAtMost partial_cmp x v) values
