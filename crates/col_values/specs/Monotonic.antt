-- Lists under maps that keep the order of their domain.
use Rattle.std.specs.Prelude.{◌<◌, Bool, List, length, map, Option}
use Rattle.std.specs.List.{All}
use Rattle.std.specs.declared.cmp.Ordering.{Ordering}
pub use Rattle.col_model.specs.Monotonic.{Passes, IsMonotonic, IsImage, IsEnd, EndsAt, IsAtLeast, IsAtMostOf}
use Rattle.col_values.specs.Values.{Encloses}

-- each value is in the domain, and where there is one both bounds too
pub record AllMapped {X : Type 0} (is_in : X → Bool) (values : List X)
    (IsLeast IsGreatest : X → Type 0) : Type 0 where
  pub each : All (Passes is_in) values
  pub least : (x : X) → 0 < length values → IsLeast x → Passes is_in x
  pub greatest : (x : X) → 0 < length values → IsGreatest x → Passes is_in x

-- each value is in the domain, and the bounds enclose what the values are mapped to
pub record IsMapped {X Y : Type 0} (cy : Y → Y → Option Ordering) (is_in : X → Bool)
    (there : X → Y) (values : List X) (low high : Y) : Type 0 where
  pub each : All (Passes is_in) values
  pub encloses : Encloses cy low high (map there values)
