-- The places of a slot among slots that are sorted with their segments.
use Rattle.std.proofs.Common.{◌≡◌, ℕ, ◌+◌, ◌≤◌, Bool, true, false, List, length, get_or, filter, slice_range, refl, sym, ◌∙◌, inl, inr, arith}
use Rattle.std.specs.Ordering.{nat_cmp, ordering_then, is_lt, is_le, is_eq, ordering_index}
use Rattle.std.specs.declared.cmp.Ordering.{Ordering}
use Rattle.std.specs.declared.cmp.Ordering.TheVariants.{Less, Equal, Greater}
use Rattle.std.specs.List.Sorted.{IsSorted, IsNonDecreasingBy, IsPartitionedBy, IsPartitionPoint}
use Rattle.std.proofs.lemmas.Bool.{cases_lt, false≢true, true≢false}
use Rattle.std.proofs.lemmas.List.Sorted.{searchable_from_sorted}
use Rattle.col_common.proofs.OrderingLemmas.{lt_le}
use Rattle.col_model.specs.Category.{Slot, slot_cmp, same_slot}
use Rattle.col_model.proofs.ListLaws.{filter_run}
use Rattle.col_model.proofs.SlotLaws.{slots_total}
use Rattle.col_merge_plan.specs.Placed.{placed_cmp}

not-lower : (o p : Ordering) → is_lt (ordering_then o p) ≡ false → is_lt o ≡ false
not-lower Less p e = e
not-lower Equal p e = refl
not-lower Greater p e = refl

lower : (test : Ordering → Bool) (o p : Ordering) → ordering_index o ≤ ordering_index p → test p ≡ true
    → (test Equal ≡ true → test Less ≡ true) → (test Greater ≡ true → test Equal ≡ true) → test o ≡ true
lower test Less Less h e f g = e
lower test Less Equal h e f g = f e
lower test Less Greater h e f g = f (g e)
lower test Equal Less h e f g = absurd (omega arith)
lower test Equal Equal h e f g = e
lower test Equal Greater h e f g = g e
lower test Greater Less h e f g = absurd (omega arith)
lower test Greater Equal h e f g = absurd (omega arith)
lower test Greater Greater h e f g = e

-- slots that are sorted with their segments rise
placed-rise : (slot : Slot) (placed : List (Slot × ℕ)) → IsSorted placed_cmp placed
    → IsNonDecreasingBy (λ (p : Slot × ℕ). ordering_index (slot_cmp p.0 slot)) placed
placed-rise slot placed sorted =
    searchable_from_sorted slots_total (λ (p : Slot × ℕ). p.0) placed slot
    (λ k d g h. not-lower (slot_cmp (get_or placed (k + 1) d).0 (get_or placed k d).0)
    (nat_cmp (get_or placed (k + 1) d).1 (get_or placed k d).1) (sorted k d g h))

module _ (slot : Slot) (placed : List (Slot × ℕ)) (sorted : IsSorted placed_cmp placed) where
  -- the slots below stand before the others
  pub lt-partitioned : IsPartitionedBy (λ (p : Slot × ℕ). is_lt (slot_cmp p.0 slot)) placed
  lt-partitioned i j d h k e =
      lower is_lt _ _ (placed-rise slot placed sorted i j d h k) e (λ e. refl) (λ e. absurd (false≢true e))

  -- those that aren't above stand before the others
  pub le-partitioned : IsPartitionedBy (λ (p : Slot × ℕ). is_le (slot_cmp p.0 slot)) placed
  le-partitioned i j d h k e =
      lower is_le _ _ (placed-rise slot placed sorted i j d h k) e (λ e. refl) (λ e. refl)

  module _ (start upto : ℕ) (high : upto ≤ length placed)
      (starts : IsPartitionPoint (λ (p : Slot × ℕ). is_lt (slot_cmp p.0 slot) ≡ true) (λ p. is_lt (slot_cmp p.0 slot) ≡ false) placed start)
      (ends : IsPartitionPoint (λ (p : Slot × ℕ). is_le (slot_cmp p.0 slot) ≡ true) (λ p. is_le (slot_cmp p.0 slot) ≡ false) placed upto)
      (low : start ≤ length placed) where
    pub in-order : (d : Slot × ℕ) → start ≤ upto
    in-order d = elim (cases_lt upto start) [
      | inl before ↦ absurd (false≢true (sym (ends.1 upto d (omega arith) (omega arith))
          ∙ lt_le (slot_cmp (get_or placed upto d).0 slot) (starts.0 upto d (omega arith) before)))
      | inr behind ↦ behind
    ]

    -- the places of the slot are those from the end of the first search to that of the second
    pub run-found : (d : Slot × ℕ) → filter (λ (p : Slot × ℕ). same_slot p.0 slot) placed ≡ slice_range placed start upto
    run-found d = filter_run (λ (p : Slot × ℕ). same_slot p.0 slot) d placed start upto (in-order d) high
        (λ j h. below _ (starts.0 j d (omega arith) h))
        (λ j h k. between _ (starts.1 j d h (omega arith)) (ends.0 j d (omega arith) k))
        (λ j h k. beyond _ (ends.1 j d h k))
      where
        below : (o : Ordering) → is_lt o ≡ true → is_eq o ≡ false
        below Less e = refl
        below Equal e = absurd (false≢true e)
        below Greater e = refl

        between : (o : Ordering) → is_lt o ≡ false → is_le o ≡ true → is_eq o ≡ true
        between Less e f = absurd (true≢false e)
        between Equal e f = refl
        between Greater e f = absurd (false≢true f)

        beyond : (o : Ordering) → is_le o ≡ false → is_eq o ≡ false
        beyond Less e = absurd (true≢false e)
        beyond Equal e = absurd (true≢false e)
        beyond Greater e = refl
