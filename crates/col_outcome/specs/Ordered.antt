-- The order of a script's merge. States docs/RULES.md, Merged tables and Sorted merges.
use Rattle.std.specs.Prelude.{◌≡◌, ◌⊎◌, ◌≤◌, ◌^◌, ◌+◌, ℕ, List, length, Option, Some, None, Result, Ok, Err, IfErr}
use Rattle.col_common.specs.declared.error.ColumnarError.{ColumnarError}
use Rattle.col_common.specs.declared.error.ColumnarError.TheVariants.{OutOfMemory, ReadFault, BadOrder, TooLarge}
use Rattle.col_model.specs.Category.{slot_of}
use Rattle.col_model.specs.File.{Part}
use Rattle.col_model.specs.Keys.{FileKeys}
use Rattle.col_model.specs.Merge.{Required}
use Rattle.col_model.specs.Order.{Order, picks}
use Rattle.col_program.specs.Outcome.{order_over}
use Rattle.col_program.specs.Script.{RowOrder, named, sorted}
use Rattle.col_writer_columns.specs.Answers.{MayRefuse}
use Rattle.col_order.specs.RowOrders.{order_of}
use Rattle.col_order.specs.declared.merge_row_order.MergeRowOrder.{MergeRowOrder}
use Rattle.col_file.specs.Readers.{SeenReader}
use Rattle.col_merge.specs.Parts.{told_parts}
use Rattle.col_merge.specs.Readings.{AllRead, SomeReaderRose, slot_reads}
use Rattle.col_outcome.specs.Making.{IsMergeRefusal, column_reads, merged_over}

-- the order picks more rows than 32 bits count
pub record PicksTooMany (order : Order) (counts : List ℕ) : Type 0 where
  pub picked : List (ℕ × ℕ)
  pub are : picks order counts ≡ Some picked
  pub many : 2 ^ 32 ≤ length picked

-- An order over segments with these row counts. BadOrder says that it names a row that is
-- missing, TooLarge that it picks too many.
abbrev pub IsOrder : Order → List ℕ → Result MergeRowOrder ColumnarError → Type 0
IsOrder order counts (Ok made) = order_of made ≡ order
IsOrder order counts (Err e) = (e ≡ OutOfMemory)
    ⊎ (((e ≡ BadOrder) × (picks order counts ≡ None))
    ⊎ ((e ≡ TooLarge) × PicksTooMany order counts))

-- The order over these parts. A refusal is a failed read, or the first one of the merge, whichever
-- columns are required.
abbrev pub IsOrderOver : Option RowOrder → List Part → Result MergeRowOrder ColumnarError → Type 0
IsOrderOver order parts (Ok made) = order_over order parts ≡ Ok (order_of made)
IsOrderOver order parts (Err e) = (e ≡ ReadFault)
    ⊎ ((required : List Required) → MayRefuse (merged_over required order parts) e)

-- how often a file is read for an order: once, where its rows are sorted by a column that it has
abbrev pub order_reads : Option RowOrder → FileKeys → ℕ
order_reads None k = 0
order_reads (Some (named rows)) k = 0
order_reads (Some (sorted key)) k = slot_reads (slot_of key.name key.column_type) k

-- how often a file is read for a merge: for the order, and for its columns
abbrev pub merge_reads : Option RowOrder → FileKeys → ℕ
merge_reads order k = order_reads order k + column_reads k

-- What taking an order of open files gives: the order over the parts that they tell, or why there
-- is none. ReadFault comes where some file's count of faults rose.
pub record TakesOrder (order : Option RowOrder) (olds news : List SeenReader)
    (result : Result MergeRowOrder ColumnarError) : Type 0 where
  pub taken : (parts : List Part) → told_parts olds ≡ Some parts → IsOrderOver order parts result
  pub known : IfErr result IsMergeRefusal
  pub read_fault : result ≡ Err ReadFault → SomeReaderRose olds news
  pub reads : AllRead (order_reads order) olds news
