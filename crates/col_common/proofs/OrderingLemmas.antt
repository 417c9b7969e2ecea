-- Total orders: what is at most what, the lesser and the greater of two; and ranges, which rise.
use Rattle.std.proofs.Common.{◌≡◌, ℕ, ◌+◌, ◌<◌, nat_lt, nat_le, Bool, true, false, cond, List, [], ◌∷◌, get_or, filter, refl, sym, ap, subst, ◌∙◌, inl, inr, arith, add-one}
use Rattle.std.proofs.lemmas.Bool.{lt-ltb, le-ltb, le-leb, lt-leb, cases_lt}
use Rattle.std.specs.Cmp.{IsTotalOrder, upto, tied_itself}
use Rattle.std.specs.Ordering.{is_le, is_lt, is_gt, ordering_reverse}
use Rattle.std.specs.declared.cmp.Ordering.{Ordering}
use Rattle.std.specs.declared.cmp.Ordering.TheVariants.{Less, Equal, Greater}
use Rattle.std.specs.List.{range_with_len}
use Rattle.std.specs.List.Sorted.{IsStrictlyIncreasing}
use Rattle.std.proofs.lemmas.List.FromFn.{length-range_with_len, get_or-range_with_len}
use Rattle.std.proofs.lemmas.List.Kept.{IsStrictlyIncreasing-filter}
use Rattle.col_common.specs.Ascending.{is_rising}

pub le_not_gt : (r : Ordering) → is_le r ≡ true → is_gt r ≡ false
le_not_gt Less h = refl
le_not_gt Equal h = refl
le_not_gt Greater h = cc

pub not_gt_le : (r : Ordering) → is_gt r ≡ false → is_le r ≡ true
not_gt_le Less h = refl
not_gt_le Equal h = refl
not_gt_le Greater h = cc

pub turned_le : (r : Ordering) → is_lt r ≡ false → is_le (ordering_reverse r) ≡ true
turned_le Less h = cc
turned_le Equal h = refl
turned_le Greater h = refl

pub lt_le : (r : Ordering) → is_lt r ≡ true → is_le r ≡ true
lt_le Less h = refl
lt_le Equal h = cc
lt_le Greater h = cc

module _ {T : Type 0} {R : T → T → Ordering} (o : IsTotalOrder R) where
  -- an item is at most itself
  pub le_itself : (x : T) → is_le (R x x) ≡ true
  le_itself x = ap is_le (tied_itself o x)

  -- what is at most an item that is at most another is at most this
  pub le_chain : (x y z : T) → is_le (R x y) ≡ true → is_le (R y z) ≡ true → is_le (R x z) ≡ true
  le_chain x y z h k = not_gt_le (R x z) (upto o x y z (le_not_gt (R x y) h) (le_not_gt (R y z) k))

  -- the lesser of two is at most both
  pub min_cases : (x y : T) (b : Bool) → is_lt (R y x) ≡ b → (is_le (R (cond b y x) x) ≡ true) × (is_le (R (cond b y x) y) ≡ true)
  min_cases x y true h = (lt_le (R y x) h, le_itself y)
  min_cases x y false h = (le_itself x, ap is_le (o.antisymm x y) ∙ turned_le (R y x) h)

  -- both are at most the greater of two
  pub max_cases : (x y : T) (b : Bool) → is_lt (R y x) ≡ b → (is_le (R x (cond b x y)) ≡ true) × (is_le (R y (cond b x y)) ≡ true)
  max_cases x y true h = (le_itself x, lt_le (R y x) h)
  max_cases x y false h = (ap is_le (o.antisymm x y) ∙ turned_le (R y x) h, le_itself y)

-- ---- ranges

increasing : (a n : ℕ) → IsStrictlyIncreasing (range_with_len a n)
increasing a n k within =
    let next : k + 1 < n = omega (arith, length-range_with_len a n) in
    omega (arith, get_or-range_with_len a n k 0 (omega arith), get_or-range_with_len a n (k + 1) 0 next)

-- numbers that strictly increase pass the test
increasing_rises : (xs : List ℕ) → IsStrictlyIncreasing xs → is_rising xs ≡ true
increasing_rises [] h = refl
increasing_rises (x ∷ []) h = refl
increasing_rises (x ∷ y ∷ zs) h =
    let first : x < y = h 0 (omega arith) in
    rw (lt-ltb x y first) (increasing_rises (y ∷ zs) (λ k within. next k (h (k + 1) (omega arith))))
  where
    next : (k : ℕ) → get_or (x ∷ y ∷ zs) (k + 1) 0 < get_or (x ∷ y ∷ zs) (k + 1 + 1) 0 → get_or (y ∷ zs) k 0 < get_or (y ∷ zs) (k + 1) 0
    next k l =
        subst (λ m. get_or (x ∷ y ∷ zs) m 0 < get_or (y ∷ zs) (k + 1) 0) (add-one k)
        (subst (λ m. get_or (x ∷ y ∷ zs) (k + 1) 0 < get_or (x ∷ y ∷ zs) m 0) (add-one (k + 1)) l)

-- the numbers of a range that pass a test rise
pub filtered_rises : (test : ℕ → Bool) (a n : ℕ) → is_rising (filter test (range_with_len a n)) ≡ true
filtered_rises test a n = increasing_rises _ (IsStrictlyIncreasing-filter test (range_with_len a n) (increasing a n))

-- below a number, and at most it with the next
pub lt-next : (x y : ℕ) → nat_lt x y ≡ nat_le (x + 1) y
lt-next x y = elim (cases_lt x y) [
  | inl l ↦ lt-ltb x y l ∙ sym (le-leb (x + 1) y (omega (arith, l)))
  | inr m ↦ le-ltb x y m ∙ sym (lt-leb (x + 1) y (omega (arith, m)))
]
