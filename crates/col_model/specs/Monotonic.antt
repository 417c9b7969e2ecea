-- Maps that keep the order of their domain.
use Rattle.std.specs.Prelude.{◌≡◌, Bool, true, false, Option, MatchOption}
use Rattle.std.specs.Ordering.{partial_le}
use Rattle.std.specs.declared.cmp.Ordering.{Ordering}

-- a test passes
abbrev pub Passes : {X : Type 0} → (X → Bool) → X → Type 0
Passes test x = test x ≡ true

-- Values of the domain compare as what they are mapped to, and the way back undoes the way there.
pub record IsMonotonic {X Y : Type 0} (cx : X → X → Option Ordering)
    (cy : Y → Y → Option Ordering) (is_in : X → Bool) (there : X → Y) (back : Y → X) : Type 0 where
  pub compares : (x y : X) → Passes is_in x → Passes is_in y → cy (there x) (there y) ≡ cx x y
  pub undoes : (x : X) → Passes is_in x → back (there x) ≡ x

-- some value of the domain is mapped to y
pub record IsImage {X Y : Type 0} (is_in : X → Bool) (there : X → Y) (y : Y) : Type 0 where
  pub from : X
  pub inside : Passes is_in from
  pub maps : there from ≡ y

-- A value of the domain that reaches, and each value of the domain reaches exactly where it lies
-- beyond that one.
pub record IsEnd {X : Type 0} (is_in reaches : X → Bool) (is_beyond : X → X → Bool) (a : X) :
    Type 0 where
  pub inside : Passes is_in a
  pub itself : Passes reaches a
  pub tells : (x : X) → Passes is_in x → reaches x ≡ is_beyond a x

-- such a value, and none where no value of the domain reaches
abbrev pub EndsAt : {X : Type 0} → (is_in reaches : X → Bool) → (X → X → Bool) → Option X → Type 0
EndsAt {X = X} is_in reaches is_beyond result = MatchOption result
    ((x : X) → Passes is_in x → reaches x ≡ false) (IsEnd is_in reaches is_beyond)

-- The least value of the domain that is mapped to at least y, and none where there is none.
abbrev pub IsAtLeast : {X Y : Type 0} → (X → X → Option Ordering) → (Y → Y → Option Ordering) →
    (X → Bool) → (X → Y) → Y → Option X → Type 0
IsAtLeast cx cy is_in there y =
    EndsAt is_in (λ x. partial_le cy y (there x)) (λ a x. partial_le cx a x)

-- The greatest value of the domain that is mapped to at most y, and none where there is none.
abbrev pub IsAtMostOf : {X Y : Type 0} → (X → X → Option Ordering) → (Y → Y → Option Ordering) →
    (X → Bool) → (X → Y) → Y → Option X → Type 0
IsAtMostOf cx cy is_in there y =
    EndsAt is_in (λ x. partial_le cy (there x) y) (λ a x. partial_le cx x a)
