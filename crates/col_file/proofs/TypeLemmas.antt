-- The entry of a name and a type, among those of the name.
use Rattle.std.proofs.Common.{◌≡◌, ◌∙◌, ℕ, suc, ◌+◌, ◌-◌, ◌<◌, ◌≤◌, ◌&&◌, Bool, true, false, cond, List, [], ◌∷◌, filter, find, take, drop, slice_get, slice_range, option_map, is_some, Option, Some, None, refl, sym, ap, arith}
use Rattle.std.proofs.lemmas.Option.{same_Some}
use Rattle.col_file.specs.Runs.{IsRun}
use Rattle.col_file.proofs.ListLemmas.{drop-at}

-- the first item that passes two tests
find-both : {A : Type 0} (p q : A → Bool) (xs : List A) → find (λ x. p x && q x) xs ≡ find q (filter p xs)
find-both p q [] = refl
find-both p q (x ∷ xs) = by (p x) (find-both p q xs)
  where
    by : (b : Bool) → find (λ x. p x && q x) xs ≡ find q (filter p xs)
        → cond (b && q x) (Some x) (find (λ x. p x && q x) xs) ≡ find q (cond b (x ∷ filter p xs) (filter p xs))
    by true e = ap (cond (q x) (Some x)) e
    by false e = e

-- it stands in the run of those that pass the first
pub found-in_run : {A : Type 0} (p q : A → Bool) (xs : List A) (start upto : ℕ) → IsRun p xs start upto
    → find q (slice_range xs start upto) ≡ find (λ x. p x && q x) xs
found-in_run p q xs start upto run = ap (find q) (sym run.items) ∙ sym (find-both p q xs)

range-left : {A : Type 0} (xs : List A) (at upto : ℕ) (x : A) → slice_get xs at ≡ Some x → at < upto
    → slice_range xs at upto ≡ x ∷ slice_range xs (at + 1) upto
range-left xs at upto x value before =
    let more : upto - at ≡ suc (upto - (at + 1)) = omega arith in
    ap (λ n. take n (drop at xs)) more ∙ ap (take (suc (upto - (at + 1)))) (drop-at xs at (at + 1) x refl value)

module _ {A : Type 0} (q : A → Bool) (xs : List A) (at upto : ℕ) (total : Option A) (left : find q (slice_range xs at upto) ≡ total) where
  -- nothing is left
  pub found-none : upto ≤ at → None ≡ total
  found-none past =
      let none : upto - at ≡ 0 = omega arith in
      ap (λ n. find q (take n (drop at xs))) (sym none) ∙ left

  module _ (passes : Bool) (is : option_map q (slice_get xs at) ≡ Some passes) (before : at < upto) where
    one-left : (x : A) → slice_get xs at ≡ Some x → cond passes (Some x) (find q (slice_range xs (at + 1) upto)) ≡ total
    one-left x value =
        let test : q x ≡ passes = same_Some (q x) passes (ap (option_map q) (sym value) ∙ is) in
        ap (λ b. cond b (Some x) (find q (slice_range xs (at + 1) upto))) (sym test)
        ∙ ap (find q) (sym (range-left xs at upto x value before)) ∙ left

    -- the one that comes passes
    pub found-here : passes ≡ true → slice_get xs at ≡ total
    found-here hit = by (slice_get xs at) refl is
      where
        by : (o : Option A) → slice_get xs at ≡ o → option_map q o ≡ Some passes → o ≡ total
        by None value is = cc
        by (Some x) value is = ap (λ b. cond b (Some x) (find q (slice_range xs (at + 1) upto))) (sym hit) ∙ one-left x value

    -- so one is found
    pub found-some : passes ≡ true → true ≡ is_some total
    found-some hit = there (slice_get xs at) is ∙ ap is_some (found-here hit)
      where
        there : (o : Option A) → option_map q o ≡ Some passes → true ≡ is_some o
        there None is = cc
        there (Some x) is = refl

    -- or doesn't
    pub found-later : passes ≡ false → find q (slice_range xs (at + 1) upto) ≡ total
    found-later miss = by (slice_get xs at) refl is
      where
        by : (o : Option A) → slice_get xs at ≡ o → option_map q o ≡ Some passes → find q (slice_range xs (at + 1) upto) ≡ total
        by None value is = cc
        by (Some x) value is = ap (λ b. cond b (Some x) (find q (slice_range xs (at + 1) upto))) (sym miss) ∙ one-left x value
