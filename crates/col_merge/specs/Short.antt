-- The columns of a slot, where the rows between them that have none are one segment. States
-- docs/RULES.md, Merged tables.
use Rattle.std.specs.Prelude.{◌≡◌, ◌==◌, ℕ, List, [], ◌∷◌, ◌++◌, sum, if◌then◌else◌, Option, None, IfSome}
use Rattle.col_model.specs.Category.{Slot}
use Rattle.col_model.specs.File.{Part}
use Rattle.col_model.specs.Merge.{Required, row_counts}
use Rattle.col_model.specs.Keys.{FileKeys}
use Rattle.col_model.specs.Order.{Order, stack, shuffle}
use Rattle.col_dynamic.specs.declared.dynamic_column.DynamicColumn.{DynamicColumn}
use Rattle.col_file.specs.Readers.{SeenReader}
use Rattle.col_merge_plan.specs.Placed.{ArePlaced}
use Rattle.col_merge_plan.specs.Slots.{counts_read}
use Rattle.col_merge_slot.specs.JoinedSlots.{AreOpened}
use Rattle.col_merge_slot.specs.Segments.{HaveRows}
use Rattle.col_merge.specs.Joined.{joined_by}
use Rattle.col_merge.specs.Opened.{IsOpenedAs}
use Rattle.col_merge.specs.Parts.{told_parts}

-- These are the slots of all columns with their segments, in order, where the order is a stack.
abbrev pub ArePlacedFor : Order → List FileKeys → List (Slot × ℕ) → Type 0
ArePlacedFor (stack counts) ks placed = ArePlaced ks placed
ArePlacedFor (shuffle counts addresses) ks placed = Unit {0}

-- rows without a column count as one segment, if there are any
abbrev pub gap_counts : ℕ → List ℕ
gap_counts rows = if rows == 0 then [] else rows ∷ []

abbrev pub gap_columns : ℕ → List (Option DynamicColumn)
gap_columns rows = if rows == 0 then [] else None ∷ []

-- What a reader has under a slot was opened, and added behind rows without a column.
pub record AddsOpened (slot : Slot) (r : SeenReader) (gap : ℕ) (counts counts' : List ℕ)
    (columns columns' : List (Option DynamicColumn)) : Type 0 where
  pub column : Option DynamicColumn
  pub opened : IsOpenedAs slot r column
  pub rows : counts' ≡ (counts ++ gap_counts gap) ++ r.keys.row_count ∷ []
  pub added : columns' ≡ (columns ++ gap_columns gap) ++ column ∷ []

-- Some parts have these row counts and these columns, and a stack of them has the same column
-- under the slot.
pub record StandShort (slot : Slot) (parts : List Part) (counts : List ℕ)
    (columns : List (Option DynamicColumn)) : Type 0 where
  pub short : List Part
  pub counted : row_counts short ≡ counts
  pub opened : AreOpened slot short columns
  pub joined : (required : List Required) → joined_by (stack counts) required short slot
      ≡ joined_by (stack (row_counts parts)) required parts slot

-- columns of as many rows as the readers have, which stand for the columns of all
pub record IsShortOf (slot : Slot) (rs : List SeenReader) (counts : List ℕ)
    (columns : List (Option DynamicColumn)) : Type 0 where
  pub rows : sum counts ≡ sum (counts_read rs)
  pub have : HaveRows counts columns
  pub told : IfSome (told_parts rs) (λ parts. StandShort slot parts counts columns)
