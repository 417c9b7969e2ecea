-- What values of a type mean.
use Rattle.std.specs.Prelude.{ℕ, Bool, List, [], Option}
use Rattle.std.specs.List.{list_all}
use Rattle.std.specs.declared.cmp.Ordering.{Ordering}
use Rattle.col_common.specs.Reading.{only_if}
use Rattle.col_values.specs.Bounds.{AreToldExactly}
use Rattle.col_numbers.specs.Views.{IsLeastOf, IsGreatestOf}
use Rattle.col_numbers.specs.declared.num_values.NumValues.{NumValues}
use Rattle.col_numbers.specs.declared.num_values.NumValues.TheVariants.{Read, Coerced, Empty}

-- the values, in order
abbrev pub num_values_of : {T : Type 0} → NumValues T → List T
num_values_of (Read c) = c
num_values_of (Coerced c) = c
num_values_of (Empty _) = []

-- the bounds that are told: the least and the greatest value, and without values a default
abbrev pub IsLow : {T : Type 0} → (T → T → Option Ordering) → (T → Type 0) → NumValues T → T →
    Type 0
IsLow partial_cmp is_default v = IsLeastOf partial_cmp is_default (num_values_of v)

abbrev pub IsHigh : {T : Type 0} → (T → T → Option Ordering) → (T → Type 0) → NumValues T → T →
    Type 0
IsHigh partial_cmp is_default v = IsGreatestOf partial_cmp is_default (num_values_of v)

-- whatever is told of the bounds, they are exact
abbrev pub HasExactBounds : {T : Type 0} → (T → T → Option Ordering) → (T → Type 0) →
    NumValues T → Type 0
HasExactBounds partial_cmp is_default v =
    AreToldExactly partial_cmp is_default (num_values_of v) (IsLow partial_cmp is_default v)
    (IsHigh partial_cmp is_default v)

-- the list, where each number is an image
abbrev pub images_of : (ℕ → Bool) → List ℕ → Option (List ℕ)
images_of is_image xs = only_if (list_all is_image xs) xs
