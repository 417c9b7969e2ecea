-- Columns that are opened for a merge.
use Rattle.std.specs.Prelude.{◌≡◌, ◌==◌, ◌&&◌, Bool, true, List, Option, option_map, is_some, is_none, IfSome}
use Rattle.std.specs.List.{AllZip}
use Rattle.col_common.specs.Causes.{Rose}
use Rattle.col_common.specs.declared.error.ColumnarError.{ColumnarError}
use Rattle.col_common.specs.declared.error.ColumnarError.TheVariants.{OutOfMemory, ReadFault, InvalidData}
use Rattle.col_model.specs.Category.{Category, category_of, category_place, Slot}
use Rattle.col_model.specs.File.{Part}
use Rattle.col_model.specs.Merge.{column_in, whole_column_in, has_bad_column}
use Rattle.col_column.specs.Columns.{row_count}
use Rattle.col_dynamic.specs.Dynamic.{dynamic_shape, value_count}
use Rattle.col_dynamic.specs.declared.dynamic_column.DynamicColumn.{DynamicColumn}
use Rattle.col_file.specs.Handles.{Handle}
use Rattle.col_file.specs.Readers.{SeenReader}
use Rattle.col_merge_slot.specs.JoinedSlots.{part_seen}
use Rattle.col_merge.specs.Parts.{told_part, told_parts}
use Rattle.col_merge.specs.Readings.{SomeReaderRose}

-- What a reader has under a slot was opened: the column that its part has there, or none, of as
-- many rows as the part.
pub record IsOpenedAs (slot : Slot) (r : SeenReader) (o : Option DynamicColumn) : Type 0 where
  pub column : IfSome (told_part r) (λ p. column_in slot p ≡ option_map (part_seen slot.name) o)
  pub rows : IfSome o (λ c. row_count (dynamic_shape c) (value_count c) ≡ r.keys.row_count)

-- the same of all readers
abbrev pub AllOpenedAs : Slot → List SeenReader → List (Option DynamicColumn) → Type 0
AllOpenedAs slot rs columns = AllZip (IsOpenedAs slot) rs columns

-- the handle's column is of a category
abbrev pub is_in : Category → Handle → Bool
is_in category h = category_place (category_of h.column_type) == category_place category

-- the part's column under a slot is outside the grammar
abbrev pub is_bad : Slot → Part → Bool
is_bad slot p = is_some (column_in slot p) && is_none (whole_column_in slot p)

-- Why a column wasn't opened: InvalidData says that its bytes stand for none.
abbrev pub RefusesColumn : Slot → SeenReader → SeenReader → ColumnarError → Type 0
RefusesColumn slot old new OutOfMemory = Unit {0}
RefusesColumn slot old new ReadFault = Rose old.file.faults new.file.faults
RefusesColumn slot old new InvalidData = IfSome (told_part old) (λ p. is_bad slot p ≡ true)
RefusesColumn slot old new _ = ⊥

-- Why the columns of a slot weren't opened.
abbrev pub RefusesColumns : Slot → List SeenReader → List SeenReader → ColumnarError → Type 0
RefusesColumns slot olds news OutOfMemory = Unit {0}
RefusesColumns slot olds news ReadFault = SomeReaderRose olds news
RefusesColumns slot olds news InvalidData =
    IfSome (told_parts olds) (λ parts. has_bad_column slot parts ≡ true)
RefusesColumns slot olds news _ = ⊥
