-- Numbers that rise below a bound, one after another.
use Rattle.std.proofs.Common.{◌≡◌, ℕ, ◌+◌, ◌≤◌, ◌&&◌, nat_lt, nat_le, Bool, true, List, [], ◌∷◌, refl, ◌∙◌, length, drop, arith}
use Rattle.std.proofs.lemmas.Bool.{ltb-true}
use Rattle.std.proofs.lemmas.List.{drop_all}
use Rattle.col_common.specs.Ascending.{is_rising, AreBelow}
use Rattle.col_common.proofs.OrderingLemmas.{lt-next}

-- from the next that may come on: they rise, and stay below the bound
abbrev pub rise_from : ℕ → ℕ → List ℕ → Bool
rise_from next bound [] = true
rise_from next bound (x ∷ xs) = nat_le next x && nat_lt x bound && rise_from (x + 1) bound xs

first : (a b c : Bool) → (a && b && c) ≡ true → a ≡ true
first a b c e = grind arith

second : (a b c : Bool) → (a && b && c) ≡ true → b ≡ true
second a b c e = grind arith

third : (a b c : Bool) → (a && b && c) ≡ true → c ≡ true
third a b c e = grind arith

both : (a b : Bool) → a ≡ true → b ≡ true → (a && b) ≡ true
both a b e f = grind arith

-- a number and those that rise behind it
behind : (bound x : ℕ) (ys : List ℕ) → rise_from (x + 1) bound ys ≡ true → is_rising (x ∷ ys) ≡ true
behind bound x [] e = refl
behind bound x (y ∷ ys) e =
    both (nat_lt x y) (is_rising (y ∷ ys))
    (lt-next x y ∙ first (nat_le (x + 1) y) (nat_lt y bound) (rise_from (y + 1) bound ys) e)
    (behind bound y ys (third (nat_le (x + 1) y) (nat_lt y bound) (rise_from (y + 1) bound ys) e))

-- they rise
pub rising : (next bound : ℕ) (xs : List ℕ) → rise_from next bound xs ≡ true → is_rising xs ≡ true
rising next bound [] e = refl
rising next bound (x ∷ xs) e =
    behind bound x xs (third (nat_le next x) (nat_lt x bound) (rise_from (x + 1) bound xs) e)

-- they stay below the bound
pub below : (next bound : ℕ) (xs : List ℕ) → rise_from next bound xs ≡ true → AreBelow bound xs
below next bound [] e = tt
below next bound (x ∷ xs) e = (
  ltb-true x bound (second (nat_le next x) (nat_lt x bound) (rise_from (x + 1) bound xs) e),
  below (x + 1) bound xs (third (nat_le next x) (nat_lt x bound) (rise_from (x + 1) bound xs) e),
)

-- nothing is left behind the end
pub at_end : (next bound i : ℕ) (xs : List ℕ) → length xs ≤ i → rise_from next bound (drop i xs) ≡ true
at_end next bound i xs h = rw (drop_all i xs h) refl
