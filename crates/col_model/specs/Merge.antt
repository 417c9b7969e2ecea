-- The table that a merge makes. States docs/RULES.md, Merged tables.
use Rattle.std.specs.Prelude.{ℕ, ℤ, ◌^◌, ◌==◌, ◌&&◌, not, nat_lt, nat_le, Bool, List, [], ◌∷◌, ◌++◌, map, filter_map, find, length, fold, slice_get, unwrap_or, option_map, is_some, is_none, if◌then◌else◌, Option, Some, None, Result, Ok, ⊤, option_and_then}
use Rattle.std.specs.List.{list_all, list_any, enumerate_from}
use Rattle.std.specs.Ordering.{nat_cmp}
use Rattle.std.specs.Cmp.Lexicographic.{slice_cmp}
use Rattle.col_common.specs.Reading.{only_if}
use Rattle.col_model.specs.ColumnType.{ColumnType, same_type}
use Rattle.col_model.specs.Category.{Slot, slot_of, slot_cmp, same_slot}
use Rattle.col_model.specs.Table.{Cell, Cardinality, full, optional, cardinality_code, Content, Column, Table}
use Rattle.col_model.specs.File.{Part, PartColumn, whole_column}
use Rattle.col_model.specs.Lookup.{row_of}
use Rattle.col_model.specs.Sorted.{distinct_items}
use Rattle.col_model.specs.U64List.{joined_lists}
use Rattle.col_model.specs.NumericalType.{numerical_type, typed_number}
use Rattle.col_model.specs.Limits.{tightest, is_too_large, is_of_type}
use Rattle.col_model.specs.Written.{texts_of, has_zero}
use Rattle.col_model.specs.Order.{Order, stack, shuffle, picks}
use Rattle.col_model.specs.Refusal.{Refusal, ◌>>=◌, refuse_if, or_refuse, each_ok, bad_order, too_large, bad_name, required_conflict, invalid_data, cannot_coerce, numerical_conflict}

-- a column that the merged table has to have
pub record Required : Type 0 where
  pub name : List ℕ
  pub column_type : ColumnType

-- the slot of a required column
abbrev pub required_slot : Required → Slot
required_slot r = slot_of r.name r.column_type

-- the slot of a segment's column
abbrev pub part_slot : PartColumn → Slot
part_slot c = slot_of c.name c.column_type

-- the segment's column of this name and category
abbrev pub column_in : Slot → Part → Option PartColumn
column_in slot p = find (λ c. same_slot (part_slot c) slot) p.columns

-- the same where its bytes stand for something
abbrev pub whole_column_in : Slot → Part → Option Column
whole_column_in slot p = option_and_then whole_column (column_in slot p)

-- the cells of a row of the segment, none where it lacks the column
abbrev pub cells_in : Slot → List Part → ℕ × ℕ → List Cell
cells_in slot parts p =
    let column = option_and_then (whole_column_in slot) (slice_get parts p.0) in
    unwrap_or (option_map (λ c. row_of c.content p.1) column) []

-- The segment keeps the column: it has it, and a picked row holds a cell of it.
abbrev pub kept_column : Slot → List (ℕ × ℕ) → ℕ × Part → Option Column
kept_column slot picked (s, p) = option_and_then
    (λ c. only_if (list_any (λ q. (q.0 == s) && nat_lt 0 (length (row_of c.content q.1))) picked) c)
    (whole_column_in slot p)

-- the columns that segments keep
abbrev pub kept_columns : Slot → List (ℕ × ℕ) → List Part → List Column
kept_columns slot picked parts = filter_map (kept_column slot picked) (enumerate_from 0 parts)

-- all cells of a column, picked or not
abbrev pub all_cells : Column → List Cell
all_cells c = joined_lists c.content.rows

-- the numbers of a column with its type
abbrev pub typed_numbers : Column → List (ColumnType × ℤ)
typed_numbers c = filter_map (typed_number c.column_type) (all_cells c)

-- the type that all of these columns share, else the numerical one that holds all their numbers
abbrev pub shared_type : List Column → Option ColumnType
shared_type [] = None
shared_type (c ∷ cs) =
    if list_all (λ d. same_type c.column_type d.column_type) cs then Some c.column_type
    else numerical_type (joined_lists (map typed_numbers (c ∷ cs)))

-- the type that is required of a slot, by the first item that names it
abbrev pub required_type : List Required → Slot → Option ColumnType
required_type required slot =
    option_map (λ r. r.column_type) (find (λ r. same_slot (required_slot r) slot) required)

-- the required type, where every cell of these columns is in it, else the shared one
abbrev pub joined_type : Option ColumnType → List Column → Result ColumnType Refusal
joined_type (Some t) kept =
    refuse_if (not (list_all (λ c. list_all (is_of_type t) (all_cells c)) kept)) cannot_coerce
    >>= λ _. Ok t
joined_type None kept = or_refuse (shared_type kept) numerical_conflict

-- the one that allows more
abbrev pub greater_cardinality : Cardinality → Cardinality → Cardinality
greater_cardinality a b = if nat_lt (cardinality_code a) (cardinality_code b) then b else a

-- of a segment in a stack: that of the kept column; a segment that doesn't keep it counts as Full
-- without rows, else as Optional
abbrev pub segment_cardinality : Slot → List (ℕ × ℕ) → ℕ × Part → Cardinality
segment_cardinality slot picked (s, p) = unwrap_or
    (option_map (λ c. c.content.cardinality) (kept_column slot picked (s, p)))
    (if p.row_count == 0 then full else optional)

-- the greatest of the segments
abbrev pub stacked_cardinality : Slot → List (ℕ × ℕ) → List Part → Cardinality
stacked_cardinality slot picked parts =
    fold greater_cardinality full (map (segment_cardinality slot picked) (enumerate_from 0 parts))

-- the terms of some columns, in order, each once
abbrev pub all_terms : List Column → List (List ℕ)
all_terms cs = distinct_items (slice_cmp nat_cmp) (joined_lists (map (λ c. c.content.terms) cs))

-- Row i has the cells of the row that pick i names. A stack keeps the greatest cardinality and
-- all terms, a shuffle the tightest and the picked texts.
abbrev pub joined_content : Order → Slot → List (ℕ × ℕ) → List Part → List Column → Content
joined_content (stack own) slot picked parts kept = record {
  cardinality = stacked_cardinality slot picked parts;
  terms = all_terms kept;
  rows = map (cells_in slot parts) picked;
}
joined_content (shuffle own addresses) slot picked parts kept =
    let rows = map (cells_in slot parts) picked in
    record { cardinality = tightest rows; terms = texts_of (joined_lists rows); rows = rows }

-- some segment's column is outside the grammar
abbrev pub has_bad_column : Slot → List Part → Bool
has_bad_column slot parts =
    list_any (λ p. is_some (column_in slot p) && is_none (whole_column_in slot p)) parts

-- The merged column of a slot, none where it is absent, or its first refusal.
unfoldable pub joined_column : Order → List (ℕ × ℕ) → List Part → List Required → Slot
    → Result (Option Column) Refusal
joined_column order picked parts required slot = do
  _ ← refuse_if (has_bad_column slot parts) invalid_data
  let kept = kept_columns slot picked parts
  let wanted = required_type required slot
  let present = do
    t ← joined_type wanted kept
    let content = joined_content order slot picked parts kept
    _ ← refuse_if (is_too_large t content) too_large
    Ok (Some (record { name = slot.name; column_type = t; content = content }))
  if is_none wanted && (length kept == 0) then Ok None else present

-- the slots of the required columns and of all segments, in order
abbrev pub all_slots : List Part → List Required → List Slot
all_slots parts required = distinct_items slot_cmp
    (map required_slot required ++ joined_lists (map (λ p. map part_slot p.columns) parts))

-- the items name one slot, and two types
abbrev pub contradicts : Required → Required → Bool
contradicts r q =
    same_slot (required_slot q) (required_slot r) && not (same_type q.column_type r.column_type)

-- Each required item in order: its name has no zero byte, and no earlier item of its name and
-- category has another type.
abbrev pub required_refusal : List Required → List Required → Result ⊤ Refusal
required_refusal earlier [] = Ok tt
required_refusal earlier (r ∷ rs) = do
  _ ← refuse_if (has_zero r.name) bad_name
  _ ← refuse_if (list_any (contradicts r) earlier) required_conflict
  required_refusal (earlier ++ r ∷ []) rs

-- how many rows each segment has
abbrev pub row_counts : List Part → List ℕ
row_counts parts = map (λ p. p.row_count) parts

-- The table with one row for each pick and the joined columns, or the first refusal.
unfoldable pub merged : List Part → List Required → Order → Result Table Refusal
merged parts required order = do
  picked ← or_refuse (picks order (row_counts parts)) bad_order
  _ ← refuse_if (nat_le (2 ^ 32) (length picked)) too_large
  _ ← required_refusal [] required
  columns ← each_ok (joined_column order picked parts required) (all_slots parts required)
  Ok (record { row_count = length picked; columns = filter_map (λ c. c) columns })
