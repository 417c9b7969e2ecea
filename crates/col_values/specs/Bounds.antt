-- What the bounds of a list of values are.
use Rattle.std.specs.Prelude.{◌≡◌, ◌<◌, List, [], length, Contains, Option}
use Rattle.std.specs.declared.cmp.Ordering.{Ordering}
use Rattle.col_values.specs.Values.{Encloses}

-- Without values both bounds are a default, else the least and the greatest of the values.
pub record AreExact {T : Type 0} (partial_cmp : T → T → Option Ordering)
    (is_default : T → Type 0) (values : List T) (low high : T) : Type 0 where
  pub without_values : values ≡ [] → is_default low × is_default high
  pub least : 0 < length values → Contains values low
  pub greatest : 0 < length values → Contains values high
  pub encloses : Encloses partial_cmp low high values

-- Without values a bound is a default, else what a map makes of a bound of the values.
pub record IsMappedBound {X Y : Type 0} (is_default : Y → Type 0) (there : X → Y)
    (values : List X) (IsBound : X → Type 0) (bound : Y) : Type 0 where
  pub without_values : values ≡ [] → is_default bound
  pub mapped : 0 < length values → (x : X) × IsBound x × (bound ≡ there x)

-- Where there are values, what is told of a bound is one of them.
abbrev pub IsOfValues : {T : Type 0} → List T → (T → Type 0) → Type 0
IsOfValues {T = T} values IsBound = (v : T) → 0 < length values → IsBound v → Contains values v

-- Whatever is told of the bounds, they are exact.
abbrev pub AreToldExactly : {T : Type 0} → (T → T → Option Ordering) → (T → Type 0) → List T →
    (T → Type 0) → (T → Type 0) → Type 0
AreToldExactly {T = T} partial_cmp is_default values IsLeast IsGreatest =
    (low high : T) → IsLeast low → IsGreatest high → AreExact partial_cmp is_default values low high
