-- The order of a sorted merge. States docs/RULES.md, Sorted merges.
use Rattle.std.specs.Prelude.{ℕ, ◌^◌, nat_le, Bool, List, length, slice_get, Option, Result, Ok}
use Rattle.col_model.specs.Category.{Slot}
use Rattle.col_model.specs.File.{Part}
use Rattle.col_model.specs.Merge.{cells_in, has_bad_column, row_counts}
use Rattle.col_model.specs.Order.{Order, shuffle, all_rows}
use Rattle.col_model.specs.Refusal.{Refusal, ◌>>=◌, refuse_if, invalid_data, too_large}
use Rattle.col_model.specs.SortOrder.{are_keys_in_order}
use Rattle.col_model.specs.Sorted.{sorted_items}
use Rattle.col_model.specs.Table.{Cell}

-- the key of a row: its first cell, if it has one
abbrev pub key_in : Slot → List Part → ℕ × ℕ → Option Cell
key_in slot parts row = slice_get (cells_in slot parts row) 0

-- All rows by their keys, which never fall, or never rise where reversed; equal ones stand by
-- segment, then row.
unfoldable pub sorted_rows : Slot → Bool → List Part → List (ℕ × ℕ)
sorted_rows slot reversed parts = sorted_items
    (λ a b. are_keys_in_order reversed (key_in slot parts a) (key_in slot parts b))
    (all_rows (row_counts parts))

-- The shuffle that names these rows, or its first refusal.
unfoldable pub sorted_order : List Part → Slot → Bool → Result Order Refusal
sorted_order parts slot reversed = do
  _ ← refuse_if (nat_le (2 ^ 32) (length (all_rows (row_counts parts)))) too_large
  _ ← refuse_if (has_bad_column slot parts) invalid_data
  Ok (shuffle (row_counts parts) (sorted_rows slot reversed parts))
