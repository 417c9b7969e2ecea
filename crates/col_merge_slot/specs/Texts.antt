-- Columns of terms of segments, as a merge takes them. States docs/RULES.md, Merged tables.
use Rattle.std.specs.Prelude.{◌≡◌, ℕ, Bool, true, false, List, [], length, map, filter_map, slice_get, slice_index, slice_index_or, Option, Some, None}
use Rattle.std.specs.List.{list_all}
use Rattle.col_model.specs.ColumnType.{ColumnType}
use Rattle.col_model.specs.ColumnType as types
use Rattle.col_model.specs.Index.{empty_shape}
use Rattle.col_numbers.specs.NumValues.{num_values_of}
use Rattle.col_column.specs.Columns.{IsCounted, num_docs_in}
use Rattle.col_text.specs.Texts.{Texts, texts_content}
use Rattle.col_dynamic.specs.Dynamic.{content_of}
use Rattle.col_dynamic.specs.declared.dynamic_column.DynamicColumn.{DynamicColumn}
use Rattle.col_merge_slot.specs.Segments.{is_read_as}

-- the type of columns of terms that are texts, or byte strings
abbrev pub text_type : Bool → ColumnType
text_type true = types.str
text_type false = types.bytes

-- The column of terms of a segment of n rows: that which it keeps, or none of whose rows has one.
abbrev pub IsTextAs : ℕ → Option DynamicColumn → Texts → Type 0
IsTextAs n None x = (x.terms ≡ []) × (x.ords.shape ≡ empty_shape n)
IsTextAs n (Some c) x = content_of c ≡ texts_content x

-- the same, and it has the segment's rows
pub record IsTextPart (n : ℕ) (o : Option DynamicColumn) (x : Texts) : Type 0 where
  pub rows : num_docs_in num_values_of x.ords ≡ n
  pub seen : IsTextAs n o x

-- the ordinals are just those that the index counts
abbrev pub IsCountedText : Texts → Type 0
IsCountedText x = IsCounted x.ords.shape (length (num_values_of x.ords.values))

-- A column of terms for each segment, of the columns that are kept; each of these is of the type.
pub record AreSegmentTexts (t : ColumnType) (counts : List ℕ) (kept : List (Option DynamicColumn))
    (texts : List Texts) : Type 0 where
  pub fit : map (λ x. num_docs_in num_values_of x.ords) texts ≡ counts
  pub each : (k : ℕ) (x : Texts) → slice_get texts k ≡ Some x
      → IsTextAs (slice_index counts k) (slice_index_or kept k None) x
  pub read : list_all (is_read_as t) (filter_map (λ o. o) kept) ≡ true
