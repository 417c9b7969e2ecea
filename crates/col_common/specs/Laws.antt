-- Laws of comparisons, and of objects that are to fail at no call.
use Rattle.std.specs.Prelude.{◌≡◌, ◌≢◌, ℕ, Bool, true, List, [], Option, Some, Result, Err}
use Rattle.std.specs.Ordering.{is_eq}
use Rattle.std.specs.declared.cmp.Ordering.{Ordering}
use Rattle.col_common.specs.Memory.{Schedule, FailsAsListed}
use Rattle.col_common.specs.declared.outside.HandleError.{HandleError}
use Rattle.col_common.specs.declared.outside.HandleError.TheVariants.{Failed}

-- Values compare as this order has it, by either of the two comparisons.
pub record ComparesBy {T : Type 0} (order : T → T → Ordering)
    (partial : T → T → Option Ordering) (cmp : T → T → Ordering) : Type 0 where
  pub partial_is : (x y : T) → partial x y ≡ Some (order x y)
  pub cmp_is : (x y : T) → cmp x y ≡ order x y

-- Values are equal just where neither is below the other.
abbrev pub EqualAsCompared : {T : Type 0} → (T → T → Bool) → (T → T → Ordering) → Type 0
EqualAsCompared {T} eq cmp = (x y : T) → eq x y ≡ is_eq (cmp x y)

-- Equal values are hashed alike.
abbrev pub EqualHashAlike : {T : Type 0} → (T → T → Bool) → (T → List (List ℕ)) → Type 0
EqualHashAlike {T} eq hash_input = (x y : T) → eq x y ≡ true → hash_input x ≡ hash_input y

-- The default is this value alone.
abbrev pub DefaultIs : {T : Type 0} → T → (T → Type 0) → Type 0
DefaultIs {T} value is_default = (x : T) → is_default x → x ≡ value

-- an object on which no call is to fail stays one, and its count of failures stays
pub record StaysSound (before now : Schedule) : Type 0 where
  pub failing : now.failing ≡ []
  pub failed : now.failed ≡ before.failed

-- Where no call is listed, none fails.
abbrev pub UnlistedNeverFails : Type 0 → Type 0
UnlistedNeverFails T = (before now : Schedule) (result : Result T HandleError) → before.failing ≡ []
    → FailsAsListed before now result → (result ≢ Err Failed) × StaysSound before now
