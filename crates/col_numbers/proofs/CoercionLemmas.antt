-- Lists of numbers of one numerical type seen as the other.
use Rattle.std.proofs.Common.{◌≡◌, ℕ, ℤ, pos, negsuc, nat_abs, ◌<◌, ◌^◌, Bool, true, false, List, [], ◌∷◌, length, map, Contains, Some, refl, sym, ap, ap₂, ◌∙◌, arith}
use Rattle.std.specs.Ordering.{int_cmp}
use Rattle.std.specs.List.{All, AllByRecursion, list_all}
use Rattle.std.proofs.lemmas.Bool.{and_parts}
use Rattle.std.proofs.lemmas.Bool.Decides.{nat_tests}
use Rattle.std.proofs.lemmas.Int.{ints}
use Rattle.std.proofs.lemmas.List.Elements.{All-from_recursion, recursion_from_All, All-contains}
use Rattle.std.proofs.lemmas.List.Sums.{AllPass-from_list_all, list_all-from_AllPass}
use Rattle.col_model.specs.Column.{signed_of}
use Rattle.col_model.proofs.TestLaws.{both-ways}
use Rattle.col_values.specs.Monotonic.{Passes}
use Rattle.col_values.specs.Values.{IsAtMost}
use Rattle.col_values.specs.Codes.{is_below, number_cmp}
use Rattle.col_numbers.specs.Views.{is_seen}
use Rattle.col_numbers.specs.Coercions.{fits_i64, is_not_negative, is_in_half, moved}

-- ---- one bound tells of all

-- a bound that is a value, where there are values, and that tells of each value, tells of all
pub bound_tells : {X : Type 0} (test : X → Bool) (values : List X) (bound : X) → (values ≡ [] → test bound ≡ true)
    → (0 < length values → Contains values bound) → (test bound ≡ true → All (Passes test) values)
    → test bound ≡ list_all test values
bound_tells test [] bound none some each = none refl
bound_tells test (x ∷ xs) bound none some each =
    both-ways _ _ (λ t. list_all-from_AllPass test (x ∷ xs) (each t)) (λ t. All-contains (Passes test) (x ∷ xs)
    bound (AllPass-from_list_all test (x ∷ xs) t) (some (omega arith)))

-- a number that is at most one that fits i64 fits i64
pub below_fits : (greatest n : ℕ) → IsAtMost number_cmp n greatest → fits_i64 greatest ≡ true → Passes fits_i64 n
below_fits greatest n h t = grind (arith, nat_tests)

-- a number that is at least one that isn't negative isn't negative
pub above_fits : (least z : ℤ) → IsAtMost (λ x y. Some (int_cmp x y)) least z → is_not_negative least ≡ true → Passes is_not_negative z
above_fits (negsuc m) z h t = absurd (grind (arith, ints, nat_tests))
above_fits (pos m) (pos n) h t = grind (arith, ints, nat_tests)
above_fits (pos m) (negsuc n) h t = absurd (grind (arith, ints, nat_tests))

-- ---- the same numbers, seen another way

module _ {X Y : Type 0} (f : ℕ → X) (g : ℕ → Y) (h : X → Y) (seen next : ℕ → Bool) (test : X → Bool) (step : (n : ℕ)
    → Passes seen n → test (f n) ≡ true → Passes next n × (g n ≡ h (f n))) where
  each_again : (ns : List ℕ) → AllByRecursion (Passes seen) ns → list_all test (map f ns) ≡ true
      → AllByRecursion (Passes next) ns × (map g ns ≡ map h (map f ns))
  each_again [] all t = (tt, refl)
  each_again (n ∷ ns) all t =
      let both = and_parts _ _ t in
      let here = step n all.0 both.0 in
      let later = each_again ns all.1 both.1 in
      ((here.0, later.0), ap₂ (λ y ys. y ∷ ys) here.1 later.1)

  -- numbers that are seen as values, each of which passes, are seen as what the values become
  all_again : (ns : List ℕ) (values : List X) → values ≡ map f ns → All (Passes seen) ns
      → list_all test values ≡ true → All (Passes next) ns × (map g ns ≡ map h values)
  all_again ns values e all t =
      let both = each_again ns (recursion_from_All (Passes seen) ns all) (ap (list_all test) (sym e) ∙ t) in
      (All-from_recursion (Passes next) ns both.0, both.1 ∙ ap (map h) (sym e))

-- ---- each number, seen as the other type

-- the numbers as they are
abbrev is_whole : ℕ → Bool
is_whole = is_seen (is_below (2 ^ 64)) (λ n. n) (λ _. true)

-- those of one half, in the other
abbrev is_half : Bool → ℕ → Bool
is_half rises = is_seen (is_in_half rises) (moved rises) (λ _. true)

whole_to_i64 : (n : ℕ) → Passes is_whole n → fits_i64 n ≡ true → Passes (is_half true) n × (signed_of (moved true n) ≡ pos n)
whole_to_i64 n seen t = (grind (arith, nat_tests), grind (arith, ints, nat_tests))

half_to_i64 : (rises : Bool) (n : ℕ) → Passes (is_half rises) n → fits_i64 (moved rises n) ≡ true
    → Passes is_whole n × (signed_of n ≡ pos (moved rises n))
half_to_i64 true n seen t = absurd (grind (arith, nat_tests))
half_to_i64 false n seen t = (grind (arith, nat_tests), grind (arith, ints, nat_tests))

whole_to_u64 : (n : ℕ) → Passes is_whole n → is_not_negative (signed_of n) ≡ true
    → Passes (is_half false) n × (moved false n ≡ nat_abs (signed_of n))
whole_to_u64 n seen t = (grind (arith, ints, nat_tests), grind (arith, ints, nat_tests))

half_to_u64 : (rises : Bool) (n : ℕ) → Passes (is_half rises) n → is_not_negative (signed_of (moved rises n)) ≡ true
    → Passes is_whole n × (n ≡ nat_abs (signed_of (moved rises n)))
half_to_u64 true n seen t = (grind (arith, ints, nat_tests), grind (arith, ints, nat_tests))
half_to_u64 false n seen t = absurd (grind (arith, ints, nat_tests))

-- ---- a list, seen as the other type

-- numbers of u64 that all fit i64 are the same numbers seen as i64, by their codes moved up
pub whole_list_to_i64 : (ns : List ℕ) (values : List ℕ) → values ≡ map (λ n. n) ns → All (Passes is_whole) ns
    → list_all fits_i64 values ≡ true
    → All (Passes (is_half true)) ns × (map (λ n. signed_of (moved true n)) ns ≡ map pos values)
whole_list_to_i64 = all_again (λ n. n) (λ n. signed_of (moved true n)) pos is_whole (is_half true) fits_i64 whole_to_i64

-- numbers of i64 seen as u64 that all fit i64 are the same numbers seen as i64, by their own codes
pub half_list_to_i64 : (rises : Bool) (ns : List ℕ) (values : List ℕ) → values ≡ map (moved rises) ns
    → All (Passes (is_half rises)) ns → list_all fits_i64 values ≡ true
    → All (Passes is_whole) ns × (map signed_of ns ≡ map pos values)
half_list_to_i64 rises = all_again (moved rises) signed_of pos (is_half rises) is_whole fits_i64 (half_to_i64 rises)

-- numbers of i64 of which none is negative are the same numbers seen as u64, by their codes moved
-- down
pub whole_list_to_u64 : (ns : List ℕ) (values : List ℤ) → values ≡ map signed_of ns → All (Passes is_whole) ns
    → list_all is_not_negative values ≡ true
    → All (Passes (is_half false)) ns × (map (moved false) ns ≡ map nat_abs values)
whole_list_to_u64 = all_again signed_of (moved false) nat_abs is_whole (is_half false) is_not_negative whole_to_u64

-- numbers of u64 seen as i64 of which none is negative are the same numbers seen as u64, by their
-- own codes
pub half_list_to_u64 : (rises : Bool) (ns : List ℕ) (values : List ℤ)
    → values ≡ map (λ n. signed_of (moved rises n)) ns → All (Passes (is_half rises)) ns
    → list_all is_not_negative values ≡ true → All (Passes is_whole) ns × (map (λ n. n) ns ≡ map nat_abs values)
half_list_to_u64 rises =
    all_again (λ n. signed_of (moved rises n)) (λ n. n) nat_abs (is_half rises) is_whole is_not_negative
    (half_to_u64 rises)
