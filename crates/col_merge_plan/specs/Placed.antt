-- The segments that have columns of slots. States docs/RULES.md, Merged tables.
use Rattle.std.specs.Prelude.{◌≡◌, ◌≤◌, ◌<◌, ◌==◌, ℕ, Bool, true, List, [], ◌∷◌, length, map, filter, flat_map, slice_get, Some}
use Rattle.std.specs.List.{AllByRecursion, list_any, enumerate_from}
use Rattle.std.specs.List.Sorted.{IsPermutation, IsSorted}
use Rattle.std.specs.Ordering.{nat_cmp, ordering_then}
use Rattle.std.specs.declared.cmp.Ordering.{Ordering}
use Rattle.col_model.specs.Category.{Slot, slot_cmp, same_slot}
use Rattle.col_model.specs.Keys.{FileKeys}
use Rattle.col_merge_plan.specs.Slots.{file_slots}

-- by slot, then by segment
abbrev pub placed_cmp : Slot × ℕ → Slot × ℕ → Ordering
placed_cmp a b = ordering_then (slot_cmp a.0 b.0) (nat_cmp a.1 b.1)

-- the slots of files' columns, each with its segment, where the first file is this segment
abbrev pub placed_from : ℕ → List FileKeys → List (Slot × ℕ)
placed_from at ks = flat_map (λ p. map (λ s. (s, p.0)) (file_slots p.1)) (enumerate_from at ks)

-- These are the slots of all columns with their segments, in order.
pub record ArePlaced (ks : List FileKeys) (placed : List (Slot × ℕ)) : Type 0 where
  pub same : IsPermutation (placed_from 0 ks) placed
  pub sorted : IsSorted placed_cmp placed

-- the segments among these that have a slot
abbrev pub segments_in : List (Slot × ℕ) → Slot → List ℕ
segments_in placed slot = map (λ p. p.1) (filter (λ p. same_slot p.0 slot) placed)

-- the file has a column of the slot
abbrev pub has_slot : Slot → FileKeys → Bool
has_slot slot k = list_any (λ s. same_slot s slot) (file_slots k)

-- no number is below one before it
abbrev pub Rise : List ℕ → Type 0
Rise [] = Unit {0}
Rise (n ∷ ns) = AllByRecursion (λ m. n ≤ m) ns × Rise ns

-- From a segment on, each that has a column of the slot is among these, which rise, and each of
-- them is there.
pub record AreSegmentsFrom (from : ℕ) (slot : Slot) (ks : List FileKeys) (segments : List ℕ) :
    Type 0 where
  pub rise : Rise segments
  pub within : AllByRecursion (λ s. s < length ks) segments
  pub each : (k : ℕ) (f : FileKeys) → slice_get ks k ≡ Some f → from ≤ k → has_slot slot f ≡ true
      → list_any (λ s. s == k) segments ≡ true
