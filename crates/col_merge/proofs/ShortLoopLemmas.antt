-- What each turn leaves of the loop that opens the columns of a slot.
use Rattle.std.proofs.Common.{◌≡◌, ℕ, zero, suc, ◌+◌, ◌-◌, ◌≤◌, ◌<◌, List, [], ◌∷◌, length, drop, get_or, Some, slice_get, Option, refl, sym, ap, ◌∙◌, subst, arith}
use Rattle.std.specs.Prelude.{slice_index_or}
use Rattle.std.specs.List.{AllByRecursion}
use Rattle.std.proofs.Math.ListN.{set}
use Rattle.std.proofs.lemmas.Option.{slice_get-get_or}
use Rattle.col_common.specs.declared.error.ColumnarError.{ColumnarError}
use Rattle.col_dynamic.specs.declared.dynamic_column.DynamicColumn.{DynamicColumn}
use Rattle.col_file.specs.Readers.{SeenReader, IsRead, Reads}
use Rattle.col_merge.proofs.OpenTurnLemmas.{opened-stops, zip-length}
use Rattle.col_merge.proofs.ReadingLemmas.{AreLeft, all_read-set, left-at, left-set}
use Rattle.col_merge.proofs.ShortLemmas.{IsShortSoFar}
use Rattle.col_merge.proofs.ShortTurnLemmas.{left-later, turn-opened}
use Rattle.col_merge.specs.Opened.{RefusesColumn, RefusesColumns}
use Rattle.col_merge.specs.Readings.{AllRead, slot_reads}
use Rattle.col_merge.specs.Short.{AddsOpened}
use Rattle.col_merge_plan.proofs.LeftLemmas.{left-out, left-behind}
use Rattle.col_merge_plan.specs.Placed.{AreSegmentsFrom}
use Rattle.col_merge_plan.specs.Slots.{counts_read, keys_read}
use Rattle.col_model.specs.Category.{Slot}
use Rattle.col_model.specs.Positions.{start_of}

-- Readers before a place were read, the segments from it on are left, and the columns so far stand
-- for those of the readers before it.
abbrev pub AreOpenedTo : Slot → List SeenReader → List SeenReader → ℕ → List ℕ → List ℕ → List (Option DynamicColumn) → Type 0
AreOpenedTo slot rs ss next left counts columns = AllRead (slot_reads slot) rs ss
    × AreLeft next rs ss
    × (next ≤ length rs)
    × AreSegmentsFrom next slot (keys_read rs) left
    × IsShortSoFar slot rs next counts columns

drop-at : (xs : List ℕ) (i : ℕ) → i < length xs → drop i xs ≡ slice_index_or xs i 0 ∷ drop (i + 1) xs
drop-at [] i h = absurd (omega arith)
drop-at (x ∷ xs) zero h = refl
drop-at (x ∷ xs) (suc i) h =
    let one : suc i + 1 ≡ suc (i + 1) = omega arith in
    drop-at xs i (omega (arith, h)) ∙ ap (λ n. slice_index_or xs i 0 ∷ drop n (x ∷ xs)) (sym one)

keys-long : (rs : List SeenReader) → length (keys_read rs) ≡ length rs
keys-long [] = refl
keys-long (r ∷ rs) = ap suc (keys-long rs)

module _ (slot : Slot) (rs ss : List SeenReader) (next i : ℕ) (segments counts : List ℕ)
    (columns : List (Option DynamicColumn)) (was : AreOpenedTo slot rs ss next (drop i segments) counts columns)
    (within : i < length segments) where
  abbrev place : ℕ
  place = slice_index_or segments i 0

  parted : AreSegmentsFrom next slot (keys_read rs) (place ∷ drop (i + 1) segments)
  parted = subst (AreSegmentsFrom next slot (keys_read rs)) (drop-at segments i within) was.3

  -- the segment is one of the readers
  place-there : place < length rs
  place-there = omega (arith, parted.within.0, keys-long rs)

  -- one that was passed already
  pub turn-passed : place < next → AreOpenedTo slot rs ss next (drop (i + 1) segments) counts columns
  turn-passed before =
      (was.0, was.1, was.2, left-out next slot (keys_read rs) place (drop (i + 1) segments) parted before, was.4)

  module _ (past : next ≤ place) (d new : SeenReader) where
    abbrev now : SeenReader
    now = get_or ss place d

    now-is : slice_get ss place ≡ Some now
    now-is = slice_get-get_or ss place d (omega (arith, place-there, zip-length _ rs ss was.0))

    now-was : slice_get rs place ≡ Some now
    now-was = left-at rs ss place now (left-later rs ss next place past was.1) now-is

    -- the reader was read
    pub turn-read : Reads (slot_reads slot now.keys) now new → AllRead (slot_reads slot) rs (set ss place new)
    turn-read reads = all_read-set (slot_reads slot) rs ss place now new was.0 now-was reads

    -- its column wasn't opened
    pub turn-stopped : (e : ColumnarError) → RefusesColumn slot now new e → RefusesColumns slot rs (set ss place new) e
    turn-stopped e h = opened-stops slot rs ss place now new e now-was now-is h

    -- its column was opened
    pub turn-taken : (order : List ℕ) → AllByRecursion IsRead rs → counts_read rs ≡ order → (gap : ℕ)
        → gap ≡ start_of order place - start_of order next → (counts' : List ℕ) (columns' : List (Option DynamicColumn))
        → Reads (slot_reads slot now.keys) now new → AddsOpened slot now gap counts counts' columns columns'
        → AreOpenedTo slot rs (set ss place new) (place + 1) (drop (i + 1) segments) counts' columns'
    turn-taken order read same gap is counts' columns' reads adds = (
      turn-read reads,
      left-set rs ss place new (left-later rs ss next place past was.1),
      omega (arith, place-there),
      left-behind next slot (keys_read rs) place (drop (i + 1) segments) parted past,
      turn-opened slot rs read order same next counts columns was.4 place (drop (i + 1) segments) parted past gap is
          now now-was counts' columns' adds,
    )
