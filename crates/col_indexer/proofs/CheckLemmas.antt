-- Numbers that rise below a bound, one after another.
use Rattle.std.proofs.Common.{◌≡◌, ℕ, ◌+◌, ◌<◌, ◌≤◌, ◌&&◌, nat_eq, nat_lt, nat_le, Bool, true, false, List, [], ◌∷◌, refl, sym, ap, ◌∙◌, inl, inr, arith}
use Rattle.std.specs.List.{starts_with}
use Rattle.std.proofs.Math.Bool.{and-true}
use Rattle.std.proofs.lemmas.Bool.{lt-ltb, le-ltb, le-leb, lt-leb, eq-eqb, ne_eqb, cases_eq}
use Rattle.col_common.specs.Ascending.{is_rising, are_below}
use Rattle.col_common.proofs.OrderingLemmas.{lt-next}

-- from the next that may come on: they rise, and stay below the bound
abbrev pub rise_from : ℕ → ℕ → List ℕ → Bool
rise_from next bound [] = true
rise_from next bound (x ∷ xs) = nat_le next x && nat_lt x bound && rise_from (x + 1) bound xs

rearranged : (a b c d r : Bool) → (b && d) ≡ r → (a && b && (c && d)) ≡ (a && c && r)
rearranged a b c d r e = grind arith

-- the test behind a number
behind : (bound x : ℕ) (ys : List ℕ) → (is_rising (x ∷ ys) && are_below bound ys) ≡ rise_from (x + 1) bound ys
behind bound x [] = refl
behind bound x (y ∷ ys) =
    rearranged (nat_lt x y) (is_rising (y ∷ ys)) (nat_lt y bound) (are_below bound ys) (rise_from (y + 1) bound ys) (behind bound y ys)
    ∙ ap (λ t. t && nat_lt y bound && rise_from (y + 1) bound ys) (lt-next x y)

at_front : (a b c d r : Bool) → a ≡ true → (b && d) ≡ r → (b && (c && d)) ≡ (a && c && r)
at_front a b c d r t e = grind arith

-- the test of all of them
pub rise_front : (bound : ℕ) (xs : List ℕ) → (is_rising xs && are_below bound xs) ≡ rise_from 0 bound xs
rise_front bound [] = refl
rise_front bound (x ∷ xs) =
    at_front (nat_le 0 x) (is_rising (x ∷ xs)) (nat_lt x bound) (are_below bound xs) (rise_from (x + 1) bound xs)
    (le-leb 0 x (omega arith)) (behind bound x xs)

-- one more number
module _ (bound next x : ℕ) (left after : List ℕ) (e : left ≡ x ∷ after) where
  pub rise_fallen : x < next → rise_from next bound left ≡ false
  rise_fallen h = rw (e, lt-leb next x h) refl

  pub rise_large : bound ≤ x → rise_from next bound left ≡ false
  rise_large h = rw (e, le-ltb x bound h) grind arith

  pub rise_more : next ≤ x → x < bound → rise_from next bound left ≡ rise_from (x + 1) bound after
  rise_more h k = rw (e, le-leb next x h, lt-ltb x bound k) refl

flipped : (x : ℕ) → nat_eq 0 x ≡ nat_eq x 0
flipped x = elim (cases_eq x 0) [
  | inl e ↦ eq-eqb 0 x (sym e) ∙ sym (eq-eqb x 0 e)
  | inr n ↦ ne_eqb 0 x (λ e. n (sym e)) ∙ sym (ne_eqb x 0 n)
]

-- a list begins with 0 where its first item is 0
pub zero_first : (x : ℕ) (xs after : List ℕ) → xs ≡ x ∷ after → starts_with nat_eq xs (0 ∷ []) ≡ nat_eq x 0
zero_first x xs after e = ap (λ l. starts_with nat_eq l (0 ∷ [])) e ∙ (and-true (nat_eq 0 x) ∙ flipped x)
