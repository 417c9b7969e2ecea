-- Items that stand side by side, by a rank that never falls.
use Rattle.std.proofs.Common.{◌≡◌, ℕ, zero, suc, ◌-◌, ◌≤◌, Bool, true, false, List, [], ◌∷◌, length, get_or, take, drop, map, filter, slice_range, refl, sym, ap, ◌∙◌, subst, inl, inr, arith}
use Rattle.std.specs.declared.cmp.Ordering.{Ordering}
use Rattle.std.specs.declared.cmp.Ordering.TheVariants.{Less, Equal, Greater}
use Rattle.std.specs.Ordering.{is_lt, is_le, is_eq, ordering_index}
use Rattle.std.specs.List.Sorted.{IsNonDecreasingBy, IsPartitionedBy, IsPartitionPoint}
use Rattle.std.proofs.lemmas.Bool.{cases_lt, false≢true, true≢false}
use Rattle.std.proofs.lemmas.List.{take-map, drop-map, length-map}
use Rattle.col_common.proofs.OrderingLemmas.{lt_le}
use Rattle.col_model.proofs.ListLaws.{filter_run, filter-map}
use Rattle.col_file.specs.Runs.{IsRun}

-- ---- what ranks say

eq-below : (o : Ordering) → is_lt o ≡ true → is_eq o ≡ false
eq-below Less e = refl
eq-below Equal e = absurd (false≢true e)
eq-below Greater e = refl

eq-between : (o : Ordering) → is_lt o ≡ false → is_le o ≡ true → is_eq o ≡ true
eq-between Less e f = absurd (true≢false e)
eq-between Equal e f = refl
eq-between Greater e f = absurd (false≢true f)

eq-above : (o : Ordering) → is_le o ≡ false → is_eq o ≡ false
eq-above Less e = refl
eq-above Equal e = absurd (true≢false e)
eq-above Greater e = refl

lt-lower : (o p : Ordering) → ordering_index o ≤ ordering_index p → is_lt p ≡ true → is_lt o ≡ true
lt-lower Less p h e = refl
lt-lower Equal Less h e = absurd (omega arith)
lt-lower Equal Equal h e = absurd (false≢true e)
lt-lower Equal Greater h e = absurd (false≢true e)
lt-lower Greater Less h e = absurd (omega arith)
lt-lower Greater Equal h e = absurd (false≢true e)
lt-lower Greater Greater h e = absurd (false≢true e)

le-lower : (o p : Ordering) → ordering_index o ≤ ordering_index p → is_le p ≡ true → is_le o ≡ true
le-lower Less p h e = refl
le-lower Equal p h e = refl
le-lower Greater Less h e = absurd (omega arith)
le-lower Greater Equal h e = absurd (omega arith)
le-lower Greater Greater h e = absurd (false≢true e)

-- ---- the items of the middle rank

module _ {A : Type 0} (rank : A → Ordering) where
  -- where ranks never fall, the items below stand before the others
  lt-partitioned : (xs : List A) → IsNonDecreasingBy (λ x. ordering_index (rank x)) xs → IsPartitionedBy (λ x. is_lt (rank x)) xs
  lt-partitioned xs rises i j d h k e = lt-lower (rank (get_or xs i d)) (rank (get_or xs j d)) (rises i j d h k) e

  -- where ranks never fall, the items that are below or equal stand before the others
  le-partitioned : (xs : List A) → IsNonDecreasingBy (λ x. ordering_index (rank x)) xs → IsPartitionedBy (λ x. is_le (rank x)) xs
  le-partitioned xs rises i j d h k e = le-lower (rank (get_or xs i d)) (rank (get_or xs j d)) (rises i j d h k) e

  module _ {B : Type 0} (f : A → B) (test : B → Bool) (is : (x : A) → test (f x) ≡ is_eq (rank x)) (xs : List A)
      (start upto : ℕ) (low : start ≤ length xs) (high : upto ≤ length xs)
      (starts : IsPartitionPoint (λ x. is_lt (rank x) ≡ true) (λ x. is_lt (rank x) ≡ false) xs start)
      (ends : IsPartitionPoint (λ x. is_le (rank x) ≡ true) (λ x. is_le (rank x) ≡ false) xs upto) where
    in_order : (d : A) → start ≤ upto
    in_order d = elim (cases_lt upto start) [
      | inl before ↦ absurd (false≢true (sym (ends.1 upto d (omega arith) (omega arith))
          ∙ lt_le (rank (get_or xs upto d)) (starts.0 upto d (omega arith) before)))
      | inr behind ↦ behind
    ]

    of_items : (d : A) → filter (λ x. test (f x)) xs ≡ slice_range xs start upto
    of_items d = filter_run (λ x. test (f x)) d xs start upto (in_order d) high
        (λ j h. is (get_or xs j d) ∙ eq-below (rank (get_or xs j d)) (starts.0 j d (omega arith) h))
        (λ j h k. is (get_or xs j d) ∙ eq-between (rank (get_or xs j d)) (starts.1 j d h (omega arith)) (ends.0 j d (omega arith) k))
        (λ j h k. is (get_or xs j d) ∙ eq-above (rank (get_or xs j d)) (ends.1 j d h k))

    with_item : (d : A) → IsRun test (map f xs) start upto
    with_item d = record {
      ordered = in_order d;
      within = subst (λ n. upto ≤ n) (sym (length-map xs f)) high;
      items = filter-map f test xs ∙ ap (map f) (of_items d) ∙ moved;
    }
      where
        moved : map f (take (upto - start) (drop start xs)) ≡ take (upto - start) (drop start (map f xs))
        moved = sym (take-map f (upto - start) (drop start xs)) ∙ ap (take (upto - start)) (sym (drop-map f start xs))

  -- the items of rank `Equal` are those between the ends of a search for each bound
  run-is : {B : Type 0} (f : A → B) (test : B → Bool) → ((x : A) → test (f x) ≡ is_eq (rank x))
      → (xs : List A) (start upto : ℕ) → start ≤ length xs → upto ≤ length xs
      → IsPartitionPoint (λ x. is_lt (rank x) ≡ true) (λ x. is_lt (rank x) ≡ false) xs start
      → IsPartitionPoint (λ x. is_le (rank x) ≡ true) (λ x. is_le (rank x) ≡ false) xs upto
      → IsRun test (map f xs) start upto
  run-is f test is [] zero zero low high starts ends = record { ordered = omega arith; within = omega arith; items = refl }
  run-is f test is [] zero (suc upto) low high starts ends = absurd (omega arith)
  run-is f test is [] (suc start) upto low high starts ends = absurd (omega arith)
  run-is f test is (x ∷ xs) start upto low high starts ends = with_item f test is (x ∷ xs) start upto low high starts ends x

  -- the same by searches that find the ends of items that stand side by side
  pub run-found : {B : Type 0} (f : A → B) (test : B → Bool) → ((x : A) → test (f x) ≡ is_eq (rank x))
      → (xs : List A) (ys : List B) → map f xs ≡ ys → IsNonDecreasingBy (λ x. ordering_index (rank x)) xs
      → (start upto : ℕ) → start ≤ length xs → upto ≤ length xs
      → (IsPartitionedBy (λ x. is_lt (rank x)) xs → IsPartitionPoint (λ x. is_lt (rank x) ≡ true) (λ x. is_lt (rank x) ≡ false) xs start)
      → (IsPartitionedBy (λ x. is_le (rank x)) xs → IsPartitionPoint (λ x. is_le (rank x) ≡ true) (λ x. is_le (rank x) ≡ false) xs upto)
      → IsRun test ys start upto
  run-found f test is xs ys same rises start upto low high starts ends =
      subst (λ ys. IsRun test ys start upto) same
      (run-is f test is xs start upto low high (starts (lt-partitioned xs rises)) (ends (le-partitioned xs rises)))
