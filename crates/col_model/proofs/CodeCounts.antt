-- How many codes a list of addresses needs at most.
use Rattle.std.proofs.Common.{◌≡◌, ◌≤◌, ℕ, suc, ◌+◌, ◌-◌, ◌*◌, List, [], ◌∷◌, length, Bool, true, false, cond, refl, arith}
use Rattle.std.specs.Prelude.{nat_le}
use Rattle.std.specs.declared.cmp.Ordering.{Ordering}
use Rattle.std.specs.declared.cmp.Ordering.TheVariants.{Less, Equal, Greater}
use Rattle.std.specs.Ordering.{nat_cmp, match_ordering}
use Rattle.std.proofs.lemmas.Bool.{leb-true}
use Rattle.col_model.specs.AddressList.{gap_codes, codes_needed}
use Rattle.col_model.specs.Sorted.{with_item, distinct_items}

-- one more number
length-with_item : (x : ℕ) (ks : List ℕ) → length (with_item nat_cmp x ks) ≤ length ks + 1
length-with_item x [] = omega arith
length-with_item x (k ∷ ks) = go (nat_cmp x k) (length-with_item x ks)
  where
    go : (r : Ordering) → length (with_item nat_cmp x ks) ≤ length ks + 1
        → length (match_ordering r (x ∷ k ∷ ks) (k ∷ ks) (k ∷ with_item nat_cmp x ks)) ≤ length (k ∷ ks) + 1
    go Less h = omega arith
    go Equal h = omega arith
    go Greater h = omega arith

-- there are at most as many distinct numbers
pub length-distinct : (xs : List ℕ) → length (distinct_items nat_cmp xs) ≤ length xs
unfolding distinct_items
length-distinct [] = omega arith
length-distinct (x ∷ xs) = omega (arith, length-distinct xs, length-with_item x (distinct_items nat_cmp xs))

short-gap : (x y : ℕ) → gap_codes x y ≤ 2
short-gap x y = go (nat_le (y - x - 1) 2) refl
  where
    go : (b : Bool) → nat_le (y - x - 1) 2 ≡ b → cond b (y - x - 1) 0 ≤ 2
    go true e = leb-true (y - x - 1) 2 e
    go false e = omega arith

-- a number and the gap behind it need at most three codes
pub three-codes : (xs : List ℕ) → codes_needed xs ≤ 3 * length xs
three-codes [] = omega arith
three-codes (x ∷ []) = omega arith
three-codes (x ∷ y ∷ zs) = omega (arith, short-gap x y, three-codes (y ∷ zs))
