-- What reading leaves of readers, and how often their files are read.
use Rattle.std.specs.Prelude.{◌≡◌, ℕ, List, length, slice_get, Some, if◌then◌else◌}
use Rattle.std.specs.List.{AllZip, list_any, sum_by}
use Rattle.col_common.specs.Causes.{Rose}
use Rattle.col_model.specs.Category.{Slot, same_slot}
use Rattle.col_model.specs.Keys.{FileKeys}
use Rattle.col_file.specs.Readers.{SeenReader, Reads}
use Rattle.col_merge_plan.specs.Slots.{entry_slot}

-- readers' files were read, each at most as often as its end has it, and all else stays
abbrev pub AllRead : (FileKeys → ℕ) → List SeenReader → List SeenReader → Type 0
AllRead times olds news = AllZip (λ old new. Reads (times old.keys) old new) olds news

-- The same of all readers, of each at most as often as it has columns.
abbrev pub AllStay : List SeenReader → List SeenReader → Type 0
AllStay olds news = AllRead (λ k. length k.entries) olds news

-- one read, where a file has a column under the slot
abbrev pub slot_reads : Slot → FileKeys → ℕ
slot_reads slot k =
    if list_any (λ e. same_slot (entry_slot e) slot) k.entries then 1 else 0

-- the same for each of these slots
abbrev pub slots_reads : List Slot → FileKeys → ℕ
slots_reads slots k = sum_by (λ slot. slot_reads slot k) slots

-- some reader's count of faults rose
pub record SomeReaderRose (olds news : List SeenReader) : Type 0 where
  pub at : ℕ
  pub old : SeenReader
  pub new : SeenReader
  pub was : slice_get olds at ≡ Some old
  pub is : slice_get news at ≡ Some new
  pub rose : Rose old.file.faults new.file.faults
