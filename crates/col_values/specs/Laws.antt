-- Laws of the numbers of values and of maps: public calls ensure them, and have nothing else to do.
use Rattle.std.specs.Prelude.{◌≡◌, ℕ, ◌<◌, ◌≤◌, ◌↔◌, Bool, Option, Some}
use Rattle.std.specs.declared.cmp.Ordering.{Ordering}
use Rattle.std.specs.declared.cmp.Ordering.TheVariants.{Less}
use Rattle.col_values.specs.Monotonic.{Passes, IsImage}

-- one value is less than another exactly where its number is
abbrev pub NumbersIncrease : {X : Type 0} → (X → X → Option Ordering) → (X → Bool) → (X → ℕ) →
    Type 0
NumbersIncrease {X = X} cmp in_type code =
    (x y : X) → Passes in_type x → Passes in_type y → (cmp x y ≡ Some Less) ↔ (code x < code y)

-- below a limit a number passes the test exactly where it is the number of a value
abbrev pub ImagesAreTold : {X : Type 0} → ℕ → (X → Bool) → (X → ℕ) → (ℕ → Bool) → Type 0
ImagesAreTold limit in_type code is_image =
    (n : ℕ) → n < limit → Passes is_image n ↔ IsImage in_type code n

-- each number below a limit is the number of a value
abbrev pub EachIsImage : {X : Type 0} → ℕ → (X → Bool) → (X → ℕ) → Type 0
EachIsImage limit in_type code = (n : ℕ) → n < limit → IsImage in_type code n

-- each number up to an image is an image
abbrev pub ImagesReachDown : (ℕ → Bool) → Type 0
ImagesReachDown is_image = (m n : ℕ) → m ≤ n → Passes is_image n → Passes is_image m

-- one value of the domain is less than another exactly where what it is mapped to is
abbrev pub Increases : {X Y : Type 0} → (X → X → Option Ordering) → (Y → Y → Option Ordering) →
    (X → Bool) → (X → Y) → Type 0
Increases {X = X} cx cy is_in there =
    (x y : X) → Passes is_in x → Passes is_in y →
    (cx x y ≡ Some Less) ↔ (cy (there x) (there y) ≡ Some Less)

-- what a value of the domain is mapped to leads back to it
abbrev pub LeadsBack : {X Y : Type 0} → (X → Bool) → (X → Y) → (Y → X) → Type 0
LeadsBack {X = X} is_in there back = (x : X) → Passes is_in x → back (there x) ≡ x
