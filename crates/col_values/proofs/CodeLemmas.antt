-- What the laws of numbers that stand for values say of images.
use Rattle.std.proofs.Common.{ℕ, ◌<◌, Bool, Option}
use Rattle.std.specs.declared.cmp.Ordering.{Ordering}
use Rattle.col_values.specs.Monotonic.{Passes, IsImage}
use Rattle.col_values.specs.Codes.{IsCoded}

module _ {X : Type 0} {limit : ℕ} {cmp : X → X → Option Ordering} {in_type : X → Bool} {code : X → ℕ} {value : ℕ → X}
    {is_image : ℕ → Bool} (laws : IsCoded limit cmp in_type code value is_image) where
  -- a number that passes the test is the number of a value
  pub coded_is_image : (n : ℕ) → n < limit → Passes is_image n → IsImage in_type code n
  coded_is_image n h k = record { from = value n; inside = laws.known n h k; maps = laws.again n h k }
