-- What the columns of terms of segments under a slot are for a merge. States docs/RULES.md, Merged
-- tables.
use Rattle.std.specs.Prelude.{◌≡◌, ℕ, List, [], slice_get, Option, Some, None}
use Rattle.std.specs.List.{AllByRecursion}
use Rattle.col_model.specs.Category.{Slot}
use Rattle.col_model.specs.File.{Part}
use Rattle.col_model.specs.Index.{empty_shape}
use Rattle.col_model.specs.Merge.{kept_column, kept_columns, joined_content, row_counts}
use Rattle.col_model.specs.Order.{Order, picks}
use Rattle.col_model.specs.Table.{Column}
use Rattle.col_order.specs.Orders.{counts_of, picks_of}
use Rattle.col_text.specs.Texts.{Texts, texts_content}
use Rattle.col_merge_texts.specs.Merged.{FitTexts, merged_content}
use Rattle.col_merge_texts.specs.Taking.{AreTold}

-- The column of a segment of n rows is the one that it keeps, or has no value and no term.
abbrev pub IsTextsKeptAs : ℕ → Option Column → Texts → Type 0
IsTextsKeptAs n None c = (c.ords.shape ≡ empty_shape n) × (c.terms ≡ [])
IsTextsKeptAs n (Some d) c = d.content ≡ texts_content c

-- The columns that are merged are those that the parts keep under the slot.
abbrev pub AreTextsKeptAs : Slot → List (ℕ × ℕ) → List Part → List Texts → Type 0
AreTextsKeptAs slot picked parts columns = (k : ℕ) (p : Part) (c : Texts)
    → slice_get parts k ≡ Some p → slice_get columns k ≡ Some c
    → IsTextsKeptAs p.row_count (kept_column slot picked (k, p)) c

-- Then what stands in the merged column is what the definition joins.
abbrev pub MergedContentIsJoined : Type 0
MergedContentIsJoined = (slot : Slot) (parts : List Part) (columns : List Texts) (order : Order)
    → FitTexts order columns → AllByRecursion AreTold columns
    → picks order (counts_of order) ≡ Some (picks_of order) → counts_of order ≡ row_counts parts
    → AreTextsKeptAs slot (picks_of order) parts columns
    → merged_content columns order
    ≡ joined_content order slot (picks_of order) parts
    (kept_columns slot (picks_of order) parts)
