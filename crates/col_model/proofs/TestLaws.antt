-- What tests say of each other.
use Rattle.std.proofs.Common.{◌≡◌, ◌&&◌, Bool, true, false, refl, sym}

-- tests that follow from each other are the same
pub both-ways : (s t : Bool) → (s ≡ true → t ≡ true) → (t ≡ true → s ≡ true) → s ≡ t
both-ways true t f g = sym (f refl)
both-ways false true f g = g refl
both-ways false false f g = refl

-- three tests that must all pass, in either bracketing
pub and_regrouped : (a b c : Bool) → (a && (b && c)) ≡ ((a && b) && c)
and_regrouped true b c = refl
and_regrouped false b c = refl
