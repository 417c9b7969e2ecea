-- The column that a merge makes of a slot. States docs/RULES.md, Merged tables.
use Rattle.std.specs.Prelude.{◌≡◌, ◌⊎◌, ℕ, ◌≤◌, ◌==◌, Bool, true, false, List, [], length, map, filter_map, option_map, is_some, slice_get, slice_index_or, IfErr, Option, Some, None, Result, Ok, Err}
use Rattle.std.specs.List.{list_all, AllByRecursion}
use Rattle.col_common.specs.Outside.{SeenSink, Appends, Faulted, Grows}
use Rattle.col_common.specs.declared.error.ColumnarError.{ColumnarError}
use Rattle.col_common.specs.declared.error.ColumnarError.TheVariants.{OutOfMemory, WriteFault, CannotCoerce, NumericalConflict, TooLarge}
use Rattle.col_model.specs.Category.{Category, Slot}
use Rattle.col_model.specs.Column.{column}
use Rattle.col_model.specs.ColumnType as types
use Rattle.col_model.specs.File.{Part, PartColumn}
use Rattle.col_model.specs.Merge.{Required, required_type, column_in, kept_column, kept_columns, joined_content, joined_column, row_counts, shared_type}
use Rattle.col_model.specs.Order.{Order}
use Rattle.col_model.specs.Refusal.{Refusal, cannot_coerce, numerical_conflict, too_large}
use Rattle.col_model.specs.Table.{Column, Content}
use Rattle.col_model.specs.Version.{current_version}
use Rattle.col_types.specs.Kinds.{kind_of}
use Rattle.col_types.specs.declared.column_type.ColumnType.{ColumnType}
use Rattle.col_order.specs.Orders.{counts_of, picks_of}
use Rattle.col_dynamic.specs.Dynamic.{type_of, content_of}
use Rattle.col_dynamic.specs.declared.dynamic_column.DynamicColumn.{DynamicColumn}
use Rattle.col_merge_column.specs.Joins.{JoinsColumn}
use Rattle.col_merge_slot.specs.Segments.{column_seen, is_read_as, IsOfCategory}

-- a column as a part has it, under a name
abbrev pub part_seen : List ℕ → DynamicColumn → PartColumn
part_seen name c = record { name = name; column_type = type_of c; content = Some (content_of c) }

-- each part's column under the slot is the one that was opened
pub record AreOpened (slot : Slot) (parts : List Part) (columns : List (Option DynamicColumn)) :
    Type 0 where
  pub each : (k : ℕ) (p : Part) → slice_get parts k ≡ Some p
      → column_in slot p ≡ option_map (part_seen slot.name) (slice_index_or columns k None)

-- ---- what a call leaves

-- why a slot isn't joined
abbrev pub IsSlotRefusal : ColumnarError → Type 0
IsSlotRefusal e = (e ≡ OutOfMemory) ⊎ (e ≡ WriteFault) ⊎ (e ≡ CannotCoerce)
    ⊎ (e ≡ NumericalConflict) ⊎ (e ≡ TooLarge)

-- What the sink held stays in front; WriteFault comes where its count of faults rose.
pub record HasSlotCause {A : Type 0} (old new : SeenSink) (result : Result A ColumnarError) :
    Type 0 where
  pub grown : Grows old new
  pub later : old.faults ≤ new.faults
  pub write_fault : result ≡ Err WriteFault → Faulted old new
  pub causes : IfErr result IsSlotRefusal

-- bytes stand for the column that is expected, of n rows
pub record IsJoined (name : List ℕ) (n : ℕ) (t : types.ColumnType) (bytes : List ℕ)
    (expected : Result (Option Column) Refusal) : Type 0 where
  pub content : Content
  pub read : column bytes t current_version n ≡ Some content
  pub is : expected ≡ Ok (Some (record { name = name; column_type = t; content = content }))

-- the same, where they were added
pub record AddsJoined (name : List ℕ) (n : ℕ) (old new : SeenSink) (t : types.ColumnType)
    (expected : Result (Option Column) Refusal) : Type 0 where
  pub bytes : List ℕ
  pub added : Appends old new bytes
  pub joined : IsJoined name n t bytes expected

-- a refusal is the one that is expected, or want of memory, or a fault of the sink
abbrev pub IsRefusedAs : ColumnarError → Result (Option Column) Refusal → Type 0
IsRefusedAs e expected = (e ≡ OutOfMemory) ⊎ (e ≡ WriteFault)
    ⊎ ((e ≡ CannotCoerce) × (expected ≡ Err cannot_coerce))
    ⊎ ((e ≡ NumericalConflict) × (expected ≡ Err numerical_conflict))
    ⊎ ((e ≡ TooLarge) × (expected ≡ Err too_large))

-- The column that is expected was added, with its type; or none, where none is.
abbrev pub JoinsSlot : List ℕ → ℕ → SeenSink → SeenSink → Result (Option ColumnType) ColumnarError
    → Result (Option Column) Refusal → Type 0
JoinsSlot name n old new (Ok None) expected = (new ≡ old) × (expected ≡ Ok None)
JoinsSlot name n old new (Ok (Some t)) expected = AddsJoined name n old new (kind_of t) expected
JoinsSlot name n old new (Err e) expected = IsRefusedAs e expected

-- Wherever parts have these columns, the slot's column is the one that the definition joins.
abbrev pub IsSlotJoined : Order → List (Option DynamicColumn) → Option types.ColumnType → SeenSink
    → SeenSink → Result (Option ColumnType) ColumnarError → Type 0
IsSlotJoined order columns wanted old new result =
    (slot : Slot) (parts : List Part) (required : List Required)
    → row_counts parts ≡ counts_of order → AreOpened slot parts columns
    → wanted ≡ required_type required slot
    → JoinsSlot slot.name (length (picks_of order)) old new result
    (joined_column order (picks_of order) parts required slot)

-- ---- the steps

-- the columns that the parts keep under the slot
pub record AreKept (slot : Slot) (picked : List (ℕ × ℕ)) (parts : List Part)
    (kept : List (Option DynamicColumn)) : Type 0 where
  pub each : (k : ℕ) (p : Part) → slice_get parts k ≡ Some p → kept_column slot picked (k, p)
      ≡ option_map (column_seen slot.name) (slice_index_or kept k None)

-- what the definition joins, wherever parts keep these columns
abbrev pub IsJoinedContent : Order → List (Option DynamicColumn) → Content → Type 0
IsJoinedContent order kept content = (slot : Slot) (parts : List Part)
    → row_counts parts ≡ counts_of order → AreKept slot (picks_of order) parts kept
    → content ≡ joined_content order slot (picks_of order) parts
    (kept_columns slot (picks_of order) parts)

-- a joined column of this content was written, or it was refused
pub record WritesJoined (order : Order) (kept : List (Option DynamicColumn)) (t : types.ColumnType)
    (old new : SeenSink) (result : Result (Unit {0}) ColumnarError) : Type 0 where
  pub content : Content
  pub is : IsJoinedContent order kept content
  pub joins : JoinsColumn old new result t (length (picks_of order)) content

-- The same, where each cell is of the type; else it was refused before the first byte.
abbrev pub WritesSlot : Order → List (Option DynamicColumn) → types.ColumnType → SeenSink
    → SeenSink → Result (Unit {0}) ColumnarError → Type 0
WritesSlot order kept t old new result =
    ((new ≡ old) × (result ≡ Err OutOfMemory))
    ⊎ ((new ≡ old) × (result ≡ Err CannotCoerce)
    × (list_all (is_read_as t) (filter_map (λ o. o) kept) ≡ false))
    ⊎ ((list_all (is_read_as t) (filter_map (λ o. o) kept) ≡ true)
    × WritesJoined order kept t old new result)

-- a flag for each segment, set only where there is a column
pub record AreFlags (flags : List Bool) (columns : List (Option DynamicColumn)) : Type 0 where
  pub long : length flags ≡ length columns
  pub there : (k : ℕ) → slice_index_or flags k false ≡ true
      → is_some (slice_index_or columns k None) ≡ true

-- The type that is wanted, else the one that the columns share; none where there are none.
abbrev pub IsTypeFor : Option types.ColumnType → List Column
    → Result (Option ColumnType) ColumnarError → Type 0
IsTypeFor wanted kept (Ok None) = (wanted ≡ None) × (kept ≡ [])
IsTypeFor wanted kept (Ok (Some t)) = (wanted ≡ Some (kind_of t))
    ⊎ ((wanted ≡ None) × (shared_type kept ≡ Some (kind_of t)))
IsTypeFor wanted kept (Err e) = (e ≡ NumericalConflict) × (wanted ≡ None)
    × (shared_type kept ≡ None) × ((length kept == 0) ≡ false)

-- The same of columns that are kept, under any name, where they are of one category.
abbrev pub IsKeptType : Option types.ColumnType → List DynamicColumn
    → Result (Option ColumnType) ColumnarError → Type 0
IsKeptType wanted kept result = (category : Category) (name : List ℕ)
    → AllByRecursion (IsOfCategory category) kept
    → IsTypeFor wanted (map (column_seen name) kept) result
