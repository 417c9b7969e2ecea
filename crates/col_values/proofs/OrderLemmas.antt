-- Orders that `PartialOrd` and `Ord` agree on, and what encloses a list.
use Rattle.std.proofs.Common.{◌≡◌, ℕ, ◌+◌, ◌<◌, Bool, true, false, cond, Contains, List, length, take, get_or, Option, refl, sym, ap, ◌∙◌, subst}
use Rattle.std.specs.Cmp.{IsTotalOrder, Agrees}
use Rattle.std.specs.Ordering.{is_some_and, is_le, is_lt, ord_min, ord_max}
use Rattle.std.specs.declared.cmp.Ordering.{Ordering}
use Rattle.std.proofs.lemmas.List.Elements.{All-more, All-weaker}
use Rattle.col_common.proofs.OrderingLemmas.{le_chain, min_cases, max_cases}
use Rattle.col_values.specs.Values.{IsAtMost, Encloses}

module _ {T : Type 0} {C : T → T → Option Ordering} {R : T → T → Ordering} (o : IsTotalOrder R) (a : Agrees C R) where
  at_most_from_le : (x y : T) → is_le (R x y) ≡ true → IsAtMost C x y
  at_most_from_le x y h = ap (is_some_and is_le) (a x y) ∙ h

  le_from_at_most : (x y : T) → IsAtMost C x y → is_le (R x y) ≡ true
  le_from_at_most x y h = sym (ap (is_some_and is_le) (a x y)) ∙ h

  at_most_chain : (x y z : T) → IsAtMost C x y → IsAtMost C y z → IsAtMost C x z
  at_most_chain x y z h k = at_most_from_le x z (le_chain o x y z (le_from_at_most x y h) (le_from_at_most y z k))

  -- one value more
  pub encloses_more : (xs : List T) (i : ℕ) (x low high : T) → i < length xs → x ≡ get_or xs i x
      → Encloses C low high (take i xs) → Encloses C (ord_min R low x) (ord_max R high x) (take (i + 1) xs)
  encloses_more xs i x low high within read e =
      let lows = min_cases o low x (is_lt (R x low)) refl in
      let highs = max_cases o high x (is_lt (R x high)) refl in
      let least = ord_min R low x in
      let greatest = ord_max R high x in
      record {
        below = All-more (λ v. IsAtMost C least v) xs i x within
            (All-weaker (λ v. IsAtMost C low v) (λ v. IsAtMost C least v)
            (λ v h. at_most_chain least low v (at_most_from_le least low lows.0) h) (take i xs) e.below)
            (subst (IsAtMost C least) read (at_most_from_le least x lows.1));
        above = All-more (λ v. IsAtMost C v greatest) xs i x within
            (All-weaker (λ v. IsAtMost C v high) (λ v. IsAtMost C v greatest)
            (λ v h. at_most_chain v high greatest h (at_most_from_le high greatest highs.0)) (take i xs)
            e.above)
            (subst (λ v. IsAtMost C v greatest) read (at_most_from_le x greatest highs.1));
      }

-- one of two values of a list
pub contains_either : {T : Type 0} (xs : List T) (x y : T) (b : Bool) → Contains xs x → Contains xs y → Contains xs (cond b x y)
contains_either xs x y true h k = h
contains_either xs x y false h k = k
