-- The segments that have a slot, of slots that are sorted with their segments.
use Rattle.std.proofs.Common.{◌≡◌, append_assoc, append-nil, ℕ, zero, suc, ◌+◌, ◌≤◌, ◌<◌, ◌==◌, ◌&&◌, ◌||◌, Bool, true, false, cond, List, [], ◌∷◌, ◌++◌, map, filter, length, get_or, take, nat_le, slice_get, Some, refl, sym, ◌∙◌, ap, ap₂, arith}
use Rattle.std.specs.Ordering.{nat_cmp, ordering_then, is_lt}
use Rattle.std.specs.declared.cmp.Ordering.TheVariants.{Equal}
use Rattle.std.specs.List.{list_any, AllByRecursion}
use Rattle.std.specs.List.Sorted.{IsSorted}
use Rattle.std.specs.Cmp.{IsTotalOrder}
use Rattle.std.proofs.lemmas.Bool.{or_right, true≢false, eq-eqb, lt-leb, leb-false}
use Rattle.std.proofs.lemmas.Cmp.{then_total, on_total, nat_cmp_total, tied_itself}
use Rattle.std.proofs.lemmas.List.Folds.{list_any-append}
use Rattle.std.proofs.lemmas.List.Kept.{IsSortedBy-filter}
use Rattle.std.proofs.lemmas.List.MinMax.{ranks_by}
use Rattle.std.proofs.lemmas.Map.Keys.{ge_from_not_lt}
use Rattle.std.proofs.lemmas.List.Sorted.{list_any-IsPermutation, sorted_far}
use Rattle.col_model.specs.Category.{Slot, slot_cmp, same_slot}
use Rattle.col_model.specs.Keys.{FileKeys}
use Rattle.col_file.specs.Readers.{SeenReader}
use Rattle.col_merge_plan.specs.Placed.{placed_cmp, placed_from, ArePlaced, segments_in, has_slot, Rise, AreSegmentsFrom}
use Rattle.col_merge_plan.specs.Slots.{file_slots, keys_read}
use Rattle.col_model.proofs.OrderedColumns.{same-slots}
use Rattle.col_model.proofs.SharedTypes.{some≢none, same-some}
use Rattle.col_model.proofs.SlotLaws.{slots_total}

placed-total : IsTotalOrder placed_cmp
placed-total = then_total (on_total (λ (p : Slot × ℕ). p.0) slots_total) (on_total (λ (p : Slot × ℕ). p.1) nat_cmp_total)

-- ---- they rise

-- pairs that are sorted, all of one slot
pairs-rise : (slot : Slot) (ps : List (Slot × ℕ)) → AllByRecursion (λ (p : Slot × ℕ). p.0 ≡ slot) ps
    → ((i j : ℕ) (d : Slot × ℕ) → i ≤ j → j < length ps → is_lt (placed_cmp (get_or ps j d) (get_or ps i d)) ≡ false)
    → Rise (map (λ p. p.1) ps)
pairs-rise slot [] all far = tt
pairs-rise slot (p ∷ ps) all far = (
  later ps all.1 (λ j d h. far 0 (suc j) d (omega arith) (omega arith)),
  pairs-rise slot ps all.1 (λ i j d h k. far (suc i) (suc j) d (omega arith) (omega arith)),
)
  where
    not-below : (q : Slot × ℕ) → q.0 ≡ slot → is_lt (placed_cmp q p) ≡ false → p.1 ≤ q.1
    not-below q e h =
        let tie : slot_cmp q.0 p.0 ≡ Equal = ap₂ slot_cmp e all.0 ∙ tied_itself slots_total slot in
        ge_from_not_lt q.1 p.1 (ap (λ o. is_lt (ordering_then o (nat_cmp q.1 p.1))) (sym tie) ∙ h)

    later : (qs : List (Slot × ℕ)) → AllByRecursion (λ (p : Slot × ℕ). p.0 ≡ slot) qs
        → ((j : ℕ) (d : Slot × ℕ) → j < length qs → is_lt (placed_cmp (get_or qs j d) p) ≡ false)
        → AllByRecursion (λ m. p.1 ≤ m) (map (λ q. q.1) qs)
    later [] all h = tt
    later (q ∷ qs) all h = (
      not-below q all.0 (h 0 q (omega arith)),
      later qs all.1 (λ j d k. h (suc j) d (omega arith)),
    )

filtered-slot : (slot : Slot) (ps : List (Slot × ℕ)) → AllByRecursion (λ (p : Slot × ℕ). p.0 ≡ slot) (filter (λ p. same_slot p.0 slot) ps)
filtered-slot slot [] = tt
filtered-slot slot (p ∷ ps) = by (same_slot p.0 slot) refl (filtered-slot slot ps)
  where
    by : (b : Bool) → same_slot p.0 slot ≡ b
        → AllByRecursion (λ (p : Slot × ℕ). p.0 ≡ slot) (filter (λ p. same_slot p.0 slot) ps)
        → AllByRecursion (λ (p : Slot × ℕ). p.0 ≡ slot)
        (cond b (p ∷ filter (λ p. same_slot p.0 slot) ps) (filter (λ p. same_slot p.0 slot) ps))
    by true e rest = (same-slots p.0 slot e, rest)
    by false e rest = rest

-- segments of a slot rise
segments-rise : (slot : Slot) (placed : List (Slot × ℕ)) → IsSorted placed_cmp placed → Rise (segments_in placed slot)
segments-rise slot placed sorted =
    let order = ranks_by placed-total (λ (p : Slot × ℕ). p) in
    let lt = λ (a b : Slot × ℕ). is_lt (placed_cmp a b) in
    let kept = IsSortedBy-filter lt order (λ p. same_slot p.0 slot) placed sorted in
    pairs-rise slot (filter (λ p. same_slot p.0 slot) placed) (filtered-slot slot placed)
    (λ i j d h k. sorted_far lt order (filter (λ p. same_slot p.0 slot) placed) kept i j d h k)

-- ---- each is there

any-filter : {A B : Type 0} (f : A → B) (a : A → Bool) (b : B → Bool) (xs : List A)
    → list_any (λ x. a x && b (f x)) xs ≡ list_any b (map f (filter a xs))
any-filter f a b [] = refl
any-filter f a b (x ∷ xs) = by (a x) (any-filter f a b xs)
  where
    by : (t : Bool) → list_any (λ x. a x && b (f x)) xs ≡ list_any b (map f (filter a xs))
        → ((t && b (f x)) || list_any (λ x. a x && b (f x)) xs) ≡ list_any b (map f (cond t (x ∷ filter a xs) (filter a xs)))
    by true h = ap (λ r. b (f x) || r) h
    by false h = h

module _ (slot : Slot) where
  abbrev is_at : ℕ → Slot × ℕ → Bool
  is_at k p = same_slot p.0 slot && (p.1 == k)

  placed-here : (at k : ℕ) (ss : List Slot) → k ≡ at → list_any (λ s. same_slot s slot) ss ≡ true
      → list_any (is_at k) (map (λ s. (s, at)) ss) ≡ true
  placed-here at k [] same h = h
  placed-here at k (s ∷ ss) same h = by (same_slot s slot) h (placed-here at k ss same)
    where
      by : (b : Bool) → (b || list_any (λ s. same_slot s slot) ss) ≡ true
          → (list_any (λ s. same_slot s slot) ss ≡ true → list_any (is_at k) (map (λ s. (s, at)) ss) ≡ true)
          → ((b && (at == k)) || list_any (is_at k) (map (λ s. (s, at)) ss)) ≡ true
      by true h later = ap (λ b. b || list_any (is_at k) (map (λ s. (s, at)) ss)) (eq-eqb at k (sym same))
      by false h later = later h

  placed-there : (at k j : ℕ) (f : FileKeys) (fs : List FileKeys) → k ≡ at + j → slice_get fs j ≡ Some f → has_slot slot f ≡ true
      → list_any (is_at k) (placed_from at fs) ≡ true
  placed-there at k j f [] same e h = absurd (some≢none f (sym e))
  placed-there at k zero f (g ∷ fs) same e h =
      list_any-append (is_at k) (map (λ s. (s, at)) (file_slots g)) (placed_from (at + 1) fs)
      ∙ ap (λ b. b || list_any (is_at k) (placed_from (at + 1) fs))
      (placed-here at k (file_slots g) (omega (arith, same)) (ap (has_slot slot) (same-some g f e) ∙ h))
  placed-there at k (suc j) f (g ∷ fs) same e h =
      list_any-append (is_at k) (map (λ s. (s, at)) (file_slots g)) (placed_from (at + 1) fs)
      ∙ ap (λ b. list_any (is_at k) (map (λ s. (s, at)) (file_slots g)) || b)
      (placed-there (at + 1) k j f fs (omega (arith, same)) e h)
      ∙ or_right (list_any (is_at k) (map (λ s. (s, at)) (file_slots g))) true refl

  -- no place is that of a file behind the last
  past-none : (at n : ℕ) (ss : List Slot) → at < n → list_any (λ (p : Slot × ℕ). nat_le n p.1) (map (λ s. (s, at)) ss) ≡ false
  past-none at n [] h = refl
  past-none at n (s ∷ ss) h = rw (lt-leb n at h) (past-none at n ss h)

  placed-below : (at n : ℕ) (fs : List FileKeys) → at + length fs ≤ n
      → list_any (λ (p : Slot × ℕ). nat_le n p.1) (placed_from at fs) ≡ false
  placed-below at n [] h = refl
  placed-below at n (f ∷ fs) h =
      list_any-append (λ (p : Slot × ℕ). nat_le n p.1) (map (λ s. (s, at)) (file_slots f)) (placed_from (at + 1) fs)
      ∙ ap₂ (λ a b. a || b) (past-none at n (file_slots f) (omega (arith, h)))
      (placed-below (at + 1) n fs (omega (arith, h)))

  all-below : (n : ℕ) (ps : List (Slot × ℕ)) → list_any (λ p. nat_le n p.1) ps ≡ false → AllByRecursion (λ s. s < n) (segments_in ps slot)
  all-below n [] h = tt
  all-below n (p ∷ ps) h = by (same_slot p.0 slot) (nat_le n p.1) refl h (all-below n ps)
    where
      rest : List ℕ
      rest = segments_in ps slot

      by : (b c : Bool) → nat_le n p.1 ≡ c → (c || list_any (λ p. nat_le n p.1) ps) ≡ false
          → (list_any (λ p. nat_le n p.1) ps ≡ false → AllByRecursion (λ s. s < n) rest)
          → AllByRecursion (λ s. s < n)
          (map (λ p. p.1) (cond b (p ∷ filter (λ p. same_slot p.0 slot) ps) (filter (λ p. same_slot p.0 slot) ps)))
      by b true e h later = absurd (true≢false h)
      by true false e h later = (leb-false n p.1 e, later h)
      by false false e h later = later h

  -- the segments of a slot are all that have it, in order
  pub are-segments : (ks : List FileKeys) (placed : List (Slot × ℕ)) → ArePlaced ks placed
      → AreSegmentsFrom 0 slot ks (segments_in placed slot)
  are-segments ks placed are = record {
    rise = segments-rise slot placed are.sorted;
    within =
        all-below (length ks) placed
        (sym (list_any-IsPermutation (λ (p : Slot × ℕ). nat_le (length ks) p.1) (placed_from 0 ks) placed are.same)
        ∙ placed-below 0 (length ks) ks (omega arith));
    each =
        λ k f e from h. sym (any-filter (λ (p : Slot × ℕ). p.1) (λ p. same_slot p.0 slot) (λ s. s == k) placed)
        ∙ sym (list_any-IsPermutation (is_at k) (placed_from 0 ks) placed are.same)
        ∙ placed-there 0 k k f ks (omega arith) e h;
  }

-- ---- how they are listed

-- the slots of one more file
pub placed-more : (at i j : ℕ) (rs : List SeenReader) (r : SeenReader) → j ≡ at + i → slice_get rs i ≡ Some r
    → placed_from at (keys_read (take (suc i) rs)) ≡ placed_from at (keys_read (take i rs)) ++ map (λ s. (s, j)) (file_slots r.keys)
placed-more at i j [] r same e = absurd (some≢none r (sym e))
placed-more at zero j (x ∷ rs) r same e =
    append-nil (map (λ s. (s, at)) (file_slots x.keys))
    ∙ ap₂ (λ (k : ℕ) (r : SeenReader). map (λ s. (s, k)) (file_slots r.keys)) (omega (arith, same)) (same-some x r e)
placed-more at (suc i) j (x ∷ rs) r same e =
    ap (λ ps. map (λ s. (s, at)) (file_slots x.keys) ++ ps) (placed-more (at + 1) i j rs r (omega (arith, same)) e)
    ∙ sym (append_assoc (map (λ s. (s, at)) (file_slots x.keys)) (placed_from (at + 1) (keys_read (take i rs)))
    (map (λ s. (s, j)) (file_slots r.keys)))
