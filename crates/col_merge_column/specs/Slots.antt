-- What the columns of segments under a slot are for a merge. States docs/RULES.md, Merged tables.
use Rattle.std.specs.Prelude.{◌≡◌, ℕ, List, [], slice_get, Option, Some, None}
use Rattle.col_model.specs.Category.{Slot}
use Rattle.col_model.specs.File.{Part}
use Rattle.col_model.specs.Index.{Shape, empty_shape}
use Rattle.col_model.specs.Merge.{kept_column, kept_columns, joined_content, row_counts}
use Rattle.col_model.specs.Table.{Cell, Column}
use Rattle.col_model.specs.Written.{text_of}
use Rattle.col_order.specs.Orders.{counts_of, picks_of}
use Rattle.col_column.specs.Columns.{content_seen}
use Rattle.col_merge_values.specs.Laws.{IsOrdered}
use Rattle.col_merge_values.specs.Merges.{SegmentColumns, segment_shape, segment_values, Merge, IsMerge}
use Rattle.col_merge_column.specs.Joins.{picked_content}

-- no value stands for a text
abbrev pub AreNoTexts : {T : Type 0} → (T → Cell) → Type 0
AreNoTexts {T = T} cell = (x : T) → text_of (cell x) ≡ None

-- The values of a segment of n rows: those of the column that it keeps, as cells, or none.
abbrev pub IsKeptAs : {T : Type 0} → (T → Cell) → ℕ → Option Column → Shape → List T → Type 0
IsKeptAs cell n None s xs = s ≡ empty_shape n
IsKeptAs cell n (Some c) s xs = c.content ≡ content_seen [] cell s xs

-- The columns that are merged are those that the parts keep under the slot.
abbrev pub AreKeptAs : {T : Type 0} → (T → Cell) → Slot → List (ℕ × ℕ) → List Part
    → SegmentColumns T → Type 0
AreKeptAs cell slot picked parts c = (k : ℕ) (p : Part) → slice_get parts k ≡ Some p
    → IsKeptAs cell p.row_count (kept_column slot picked (k, p)) (segment_shape c k)
    (segment_values c k)

-- Then what stands in the column of the picked rows is what the definition joins.
abbrev pub PickedContentIsJoined : (T : Type 0) → Type 0
PickedContentIsJoined T = (cell : T → Cell) (slot : Slot) (parts : List Part) (m : Merge T)
    → AreNoTexts cell → IsMerge m → IsOrdered m → counts_of m.order ≡ row_counts parts
    → AreKeptAs cell slot (picks_of m.order) parts m.columns
    → picked_content cell m
    ≡ joined_content m.order slot (picks_of m.order) parts
    (kept_columns slot (picks_of m.order) parts)
