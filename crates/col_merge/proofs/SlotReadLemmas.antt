-- Slots that differ have as many columns in a file as it has entries, at most.
use Rattle.std.proofs.Common.{◌≡◌, ℕ, ◌+◌, ◌≤◌, ◌<◌, Bool, true, false, ◌||◌, List, [], ◌∷◌, length, take, get_or, refl, sym, ap, ◌∙◌, subst, arith, T}
use Rattle.std.specs.Prelude.{if◌then◌else◌}
use Rattle.std.specs.List.{list_any, sum_by}
use Rattle.std.specs.FinMap.Entries.{below_all}
use Rattle.std.specs.Ordering.{is_eq}
use Rattle.std.proofs.lemmas.List.Sums.{sum_by-cons, sum_by_more, sum_by-take-le}
use Rattle.col_model.specs.Category.{Slot, slot_cmp, same_slot}
use Rattle.col_model.specs.Keys.{Entry, FileKeys}
use Rattle.col_model.specs.Merge.{Required}
use Rattle.col_model.proofs.DistinctLaws.{keyed, rises, rises-distinct}
use Rattle.col_model.proofs.OrderedColumns.{left, right, same-slots}
use Rattle.col_model.proofs.OrderingLaws.{less_of}
use Rattle.col_model.proofs.SlotLaws.{slots_total}
use Rattle.col_file.specs.Readers.{SeenReader}
use Rattle.col_merge.specs.Readings.{AllRead, AllStay, slot_reads, slots_reads}
use Rattle.col_merge_plan.specs.Slots.{entry_slot, slots_by_keys}
use Rattle.col_merge.proofs.ReadingLemmas.{all_read-then, all_read-most}

abbrev one_if : Bool → ℕ
one_if b = if b then 1 else 0

-- ---- at most one read an entry

sum-none : (f : Slot → ℕ) (ss : List Slot) → ((s : Slot) → f s ≡ 0) → sum_by f ss ≡ 0
sum-none f [] none = refl
sum-none f (s ∷ ss) none =
    let rest = sum-none f ss none in
    let here = none s in
    sum_by-cons f s ss ∙ omega (arith, here, rest)

sum-both : (f g h : Slot → ℕ) (ss : List Slot) → ((s : Slot) → f s ≤ g s + h s) → sum_by f ss ≤ sum_by g ss + sum_by h ss
sum-both f g h [] le = omega arith
sum-both f g h (s ∷ ss) le = omega (arith, le s, sum-both f g h ss le, sum_by-cons f s ss, sum_by-cons g s ss, sum_by-cons h s ss)

-- no slot behind a slot is it
none-behind : (s : Slot) (ss : List Slot) → T (below_all slot_cmp s (keyed ss)) → sum_by (λ t. one_if (same_slot s t)) ss ≡ 0
none-behind s [] h = refl
none-behind s (t ∷ ss) h =
    let other : one_if (same_slot s t) ≡ 0 = ap (λ o. one_if (is_eq o)) (less_of (slot_cmp s t) (left _ _ h)) in
    let behind : T (below_all slot_cmp s (keyed ss)) = right _ _ h in
    let rest : sum_by (λ t. one_if (same_slot s t)) ss ≡ 0 = none-behind s ss behind in
    sum_by-cons (λ t. one_if (same_slot s t)) t ss ∙ omega (arith, other, rest)

-- a slot is among rising ones at most once
once : (x : Slot) (ss : List Slot) → T (rises slot_cmp ss) → sum_by (λ s. one_if (same_slot x s)) ss ≤ 1
once x [] h = omega arith
once x (s ∷ ss) h = by (same_slot x s) refl (once x ss (right _ _ h))
  where
    f : Slot → ℕ
    f s = one_if (same_slot x s)

    by : (b : Bool) → same_slot x s ≡ b → sum_by (λ s. one_if (same_slot x s)) ss ≤ 1 → sum_by (λ s. one_if (same_slot x s)) (s ∷ ss) ≤ 1
    by true e later =
        let here : one_if (same_slot x s) ≡ 1 = ap one_if e in
        let rest : sum_by (λ t. one_if (same_slot x t)) ss ≡ 0 =
        subst (λ y. sum_by (λ t. one_if (same_slot y t)) ss ≡ 0) (sym (same-slots x s e))
        (none-behind s ss (left _ _ h)) in
        omega (arith, here, rest, sum_by-cons (λ s. one_if (same_slot x s)) s ss)
    by false e later =
        let here : one_if (same_slot x s) ≡ 0 = ap one_if e in
        omega (arith, here, later, sum_by-cons (λ s. one_if (same_slot x s)) s ss)

either : (a b : Bool) → one_if (a || b) ≤ one_if a + one_if b
either true true = omega arith
either true false = omega arith
either false true = omega arith
either false false = omega arith

reads-few : (ss : List Slot) → T (rises slot_cmp ss) → (es : List Entry)
    → sum_by (λ s. one_if (list_any (λ e. same_slot (entry_slot e) s) es)) ss ≤ length es
reads-few ss h [] =
    let none = sum-none (λ s. 0) ss (λ s. refl) in
    omega (arith, none)
reads-few ss h (e ∷ es) =
    let more = sum-both (λ s. one_if (list_any (λ e. same_slot (entry_slot e) s) (e ∷ es)))
    (λ s. one_if (same_slot (entry_slot e) s)) (λ s. one_if (list_any (λ e. same_slot (entry_slot e) s) es)) ss
    (λ s. either (same_slot (entry_slot e) s) (list_any (λ e. same_slot (entry_slot e) s) es)) in
    let first = once (entry_slot e) ss h in
    let rest = reads-few ss h es in
    omega (arith, more, first, rest)

-- the slots of files and of required columns rise
pub slots-rise : (ks : List FileKeys) (required : List Required) → T (rises slot_cmp (slots_by_keys ks required))
slots-rise ks required = rises-distinct slot_cmp slots_total _

-- All slots were merged: no file was read more often than it has columns.
pub all-stay : (ks : List FileKeys) (required : List Required) (slots : List Slot) (rs ss : List SeenReader)
    → slots ≡ slots_by_keys ks required → AllRead (slots_reads slots) rs ss → AllStay rs ss
all-stay ks required slots rs ss are read =
    let rise = subst (λ slots. T (rises slot_cmp slots)) (sym are) (slots-rise ks required) in
    all_read-most (slots_reads slots) (λ k. length k.entries) rs ss (λ k. reads-few slots rise k.entries) read

-- ---- a turn of the loop

module _ (slots : List Slot) (i : ℕ) (slot : Slot) (within : i < length slots) (is : slot ≡ get_or slots i slot) where
  turn-reads : (k : FileKeys) → slots_reads (take i slots) k + slot_reads slot k ≡ slots_reads (take (i + 1) slots) k
  turn-reads k = ap (λ s. slots_reads (take i slots) k + slot_reads s k) is ∙ sym (sum_by_more (λ s. slot_reads s k) slots i slot within)

  -- one more slot was merged
  pub read-more : (rs ss us : List SeenReader) → AllRead (slots_reads (take i slots)) rs ss
      → AllRead (slot_reads slot) ss us → AllRead (slots_reads (take (i + 1) slots)) rs us
  read-more rs ss us h k =
      all_read-most (λ k. slots_reads (take i slots) k + slot_reads slot k) (slots_reads (take (i + 1) slots)) rs us
      (λ k. let same = turn-reads k in omega (arith, same))
      (all_read-then (slots_reads (take i slots)) (slot_reads slot) rs ss us h k)

  -- the slots behind it weren't
  pub read-stops : (rs ss us : List SeenReader) → AllRead (slots_reads (take i slots)) rs ss
      → AllRead (slot_reads slot) ss us → AllRead (slots_reads slots) rs us
  read-stops rs ss us h k =
      all_read-most (slots_reads (take (i + 1) slots)) (slots_reads slots) rs us
      (λ k. sum_by-take-le (λ s. slot_reads s k) slots (i + 1)) (read-more rs ss us h k)

-- all slots were merged
pub read-all : (slots : List Slot) (i : ℕ) (rs ss : List SeenReader) → AllRead (slots_reads (take i slots)) rs ss
    → AllRead (slots_reads slots) rs ss
read-all slots i rs ss h =
    all_read-most (slots_reads (take i slots)) (slots_reads slots) rs ss
    (λ k. sum_by-take-le (λ s. slot_reads s k) slots i) h
