-- Columns of segments under one name, and what a merge takes of them.
use Rattle.std.specs.Prelude.{◌≡◌, ℕ, ◌<◌, ◌==◌, ◌&&◌, ◌⊎◌, Bool, true, false, List, [], ◌∷◌, length, filter_map, slice_get, slice_index, slice_index_or, if◌then◌else◌, Option, Some, None}
use Rattle.std.specs.List.{list_all}
use Rattle.col_common.specs.declared.error.ColumnarError.{ColumnarError}
use Rattle.col_common.specs.declared.error.ColumnarError.TheVariants.{OutOfMemory, CannotCoerce}
use Rattle.col_model.specs.Category.{Category, category_of, category_place}
use Rattle.col_model.specs.ColumnType.{ColumnType}
use Rattle.col_model.specs.Index.{Shape, empty_shape}
use Rattle.col_model.specs.Limits.{is_of_type}
use Rattle.col_model.specs.Table.{Cell, Column, Content}
use Rattle.col_model.specs.U64List.{joined_lists}
use Rattle.col_column.specs.Columns.{IsCounted, row_count, content_seen}
use Rattle.col_dynamic.specs.Dynamic.{type_of, content_of, dynamic_shape, value_count}
use Rattle.col_dynamic.specs.declared.dynamic_column.DynamicColumn.{DynamicColumn}
use Rattle.col_merge_column.specs.Merges.{SegmentColumns, segment_shape, segment_values, AreColumns}

-- what is there, and has its flag set
abbrev pub where_set : {A : Type 0} → List (Option A) → List Bool → List (Option A)
where_set [] flags = []
where_set (o ∷ os) [] = None ∷ where_set os []
where_set (o ∷ os) (flag ∷ flags) = (if flag then o else None) ∷ where_set os flags

-- those of them that are there
abbrev pub kept_of : {A : Type 0} → List (Option A) → List Bool → List A
kept_of os flags = filter_map (λ o. o) (where_set os flags)

-- a column as the definition has it, under a name
abbrev pub column_seen : List ℕ → DynamicColumn → Column
column_seen name c = record { name = name; column_type = type_of c; content = content_of c }

-- the column's type is of the category
abbrev pub IsOfCategory : Category → DynamicColumn → Type 0
IsOfCategory category c = category_of (type_of c) ≡ category

-- for each segment a column of its rows, or none
pub record HaveRows (counts : List ℕ) (columns : List (Option DynamicColumn)) : Type 0 where
  pub segments : length columns ≡ length counts
  pub rows : (k : ℕ) (c : DynamicColumn) → slice_get columns k ≡ Some (Some c)
      → row_count (dynamic_shape c) (value_count c) ≡ slice_index counts k

-- the types are of one category
abbrev pub same_category : ColumnType → ColumnType → Bool
same_category s t = category_place (category_of s) == category_place (category_of t)

-- a column of the type's category, each of whose cells is of the type
abbrev pub is_read_as : ColumnType → DynamicColumn → Bool
is_read_as t c =
    same_category (type_of c) t && list_all (is_of_type t) (joined_lists (content_of c).rows)

-- nothing, or what passes the test
abbrev pub is_none_or : {A : Type 0} → (A → Bool) → Option A → Bool
is_none_or test None = true
is_none_or test (Some a) = test a

-- The index and the values of a segment of n rows: those of the column that it keeps, or none.
abbrev pub IsSegmentAs : {V : Type 0} → (Shape → V → Content) → ℕ → Option DynamicColumn → Shape
    → V → Type 0
IsSegmentAs content n None s v = s ≡ empty_shape n
IsSegmentAs content n (Some c) s v = content_of c ≡ content s v

-- The same with a column's counts, where `count` is how many values there are.
pub record IsPart {V : Type 0} (count : V → ℕ) (content : Shape → V → Content) (n : ℕ)
    (o : Option DynamicColumn) (s : Shape) (v : V) : Type 0 where
  pub rows : row_count s (count v) ≡ n
  pub counted : IsCounted s (count v)
  pub seen : IsSegmentAs content n o s v

-- An index and values for each segment, of the columns that are kept; each of these is of the type.
pub record AreParts {V : Type 0} (t : ColumnType) (count : V → ℕ) (content : Shape → V → Content)
    (counts : List ℕ) (kept : List (Option DynamicColumn)) (shapes : List Shape) (vs : List V)
    : Type 0 where
  pub shapes_long : length shapes ≡ length counts
  pub lists_long : length vs ≡ length counts
  pub each : (k : ℕ) (s : Shape) (v : V) → slice_get shapes k ≡ Some s → slice_get vs k ≡ Some v
      → IsPart count content (slice_index counts k) (slice_index_or kept k None) s v
  pub read : list_all (is_read_as t) (filter_map (λ o. o) kept) ≡ true

-- The same of lists of values that are seen as cells: columns, as merges want them.
pub record AreSegmentColumns {T : Type 0} (t : ColumnType) (cell : T → Cell) (counts : List ℕ)
    (kept : List (Option DynamicColumn)) (c : SegmentColumns T) : Type 0 where
  pub columns : AreColumns counts c
  pub each : (k : ℕ) → k < length counts → IsSegmentAs (content_seen [] cell)
      (slice_index counts k) (slice_index_or kept k None) (segment_shape c k) (segment_values c k)
  pub read : list_all (is_read_as t) (filter_map (λ o. o) kept) ≡ true

-- Want of memory, or some column that is kept isn't of the type.
abbrev pub IsRefusedFor : ColumnType → List DynamicColumn → ColumnarError → Type 0
IsRefusedFor t cs e =
    (e ≡ OutOfMemory) ⊎ ((e ≡ CannotCoerce) × (list_all (is_read_as t) cs ≡ false))
