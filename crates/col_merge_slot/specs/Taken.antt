-- Which of the columns are left that a call is lent, and takes.
use Rattle.std.specs.Prelude.{◌≡◌, ℕ, ◌+◌, ◌++◌, not, Bool, true, false, List, [], ◌∷◌, map, take, drop, slice_index_or, Option, Some, None, Result, Ok, Err}
use Rattle.std.specs.List.{list_all, AllByRecursion}
use Rattle.col_common.specs.declared.error.ColumnarError.{ColumnarError}
use Rattle.col_common.specs.declared.error.ColumnarError.TheVariants.{OutOfMemory, CannotCoerce, NumericalConflict}
use Rattle.col_model.specs.ColumnType as types
use Rattle.col_types.specs.declared.column_type.ColumnType.{ColumnType}
use Rattle.col_dynamic.specs.Dynamic.{type_of}
use Rattle.col_dynamic.specs.declared.dynamic_column.DynamicColumn.{DynamicColumn}
use Rattle.col_merge_slot.specs.Segments.{where_set, kept_of, same_category, is_read_as, is_none_or}

-- all but the columns that are kept
abbrev pub not_kept : {A : Type 0} → List (Option A) → List Bool → List (Option A)
not_kept columns kept = where_set columns (map not kept)

-- of the first n segments all but those that are kept, and all of the others
abbrev pub left_after : {A : Type 0} → ℕ → List (Option A) → List Bool → List (Option A)
left_after n columns kept = not_kept (take n columns) kept ++ drop n columns

-- of the first so many segments the columns that are kept were taken
pub record TakesFirst {A : Type 0} (old : List (Option A)) (kept : List Bool)
    (new : List (Option A)) : Type 0 where
  pub count : ℕ
  pub left : new ≡ left_after count old kept

-- Of the columns that are kept those up to the first one that doesn't fit were taken, and it too.
pub record TakesToUnfit {A : Type 0} (fits : A → Bool) (old : List (Option A)) (kept : List Bool)
    (new : List (Option A)) : Type 0 where
  pub place : ℕ
  pub before : list_all (is_none_or fits) (take place (where_set old kept)) ≡ true
  pub unfit : is_none_or fits (slice_index_or (where_set old kept) place None) ≡ false
  pub left : new ≡ left_after (place + 1) old kept

-- What a refusal leaves: all, where columns share no type; what wasn't taken yet, where memory is
-- wanted; those behind the first one that doesn't fit, where one doesn't; else all but the columns
-- that are kept.
abbrev pub LeavesFor : {A : Type 0} → (A → Bool) → List (Option A) → List Bool → List (Option A)
    → ColumnarError → Type 0
LeavesFor fits old kept new NumericalConflict = new ≡ old
LeavesFor fits old kept new OutOfMemory = TakesFirst old kept new
LeavesFor fits old kept new CannotCoerce = TakesToUnfit fits old kept new
LeavesFor fits old kept new e = new ≡ not_kept old kept

-- the columns that are kept are taken, each of which has to fit
abbrev pub TakesKept : {A X : Type 0} → (A → Bool) → List (Option A) → List Bool
    → List (Option A) → Result X ColumnarError → Type 0
TakesKept fits old kept new (Ok x) = new ≡ not_kept old kept
TakesKept fits old kept new (Err e) = LeavesFor fits old kept new e

-- A column is of the type that is wanted; where none is, it has the category of the first of the
-- columns that are kept.
abbrev pub fits_slot : Option types.ColumnType → List DynamicColumn → DynamicColumn → Bool
fits_slot (Some t) kept c = is_read_as t c
fits_slot None [] c = true
fits_slot None (first ∷ rest) c = same_category (type_of c) (type_of first)

-- each column that is kept is read as a type exactly where it fits the slot
abbrev pub FitAs : types.ColumnType → Option types.ColumnType → List DynamicColumn → Type 0
FitAs t wanted kept = AllByRecursion (λ c. is_read_as t c ≡ fits_slot wanted kept c) kept

-- The columns of a slot that are kept are taken; where the slot has no column, all are left.
abbrev pub TakesSlot : Option types.ColumnType → List (Option DynamicColumn) → List Bool
    → List (Option DynamicColumn) → Result (Option ColumnType) ColumnarError → Type 0
TakesSlot wanted old kept new (Ok None) = new ≡ old
TakesSlot wanted old kept new (Ok (Some t)) = new ≡ not_kept old kept
TakesSlot wanted old kept new (Err e) =
    LeavesFor (fits_slot wanted (kept_of old kept)) old kept new e
