-- Laws of sorted merges. States docs/RULES.md, Sorted merges.
use Rattle.std.specs.Prelude.{◌≡◌, ℕ, ◌≤◌, ◌<◌, ◌&&◌, Bool, true, List, filter, slice_get, Option, option_and_then, Ok, IsPermutation}
use Rattle.std.specs.List.{AllByRecursion}
use Rattle.col_model.specs.Category.{Slot}
use Rattle.col_model.specs.File.{Part}
use Rattle.col_model.specs.Lookup.{row_of}
use Rattle.col_model.specs.Merge.{Required, row_counts, merged}
use Rattle.col_model.specs.Order.{Order, shuffle, all_rows}
use Rattle.col_model.specs.SortOrder.{is_key_at_most, are_keys_in_order}
use Rattle.col_model.specs.SortedOrder.{key_in, sorted_rows, sorted_order}
use Rattle.col_model.specs.Soundness.{HasSoundColumns}
use Rattle.col_model.specs.Table.{Cell, Table}
use Rattle.col_laws.specs.FacetLaws.{column_under}

-- the order is the shuffle of the segments' sorted rows, and these are all rows, each just once
pub record NamesEachRow (parts : List Part) (slot : Slot) (reversed : Bool) (order : Order)
    : Type 0 where
  pub is : order ≡ shuffle (row_counts parts) (sorted_rows slot reversed parts)
  pub moved : IsPermutation (all_rows (row_counts parts)) (sorted_rows slot reversed parts)

-- A sorted order names each row of the segments just once.
abbrev pub SortedOrdersNameEachRow : Type 0
SortedOrdersNameEachRow = (parts : List Part) (slot : Slot) (reversed : Bool) (order : Order)
    → sorted_order parts slot reversed ≡ Ok order → NamesEachRow parts slot reversed order

-- the row's key and this one are each at most the other
abbrev pub ties_with : Slot → List Part → Option Cell → ℕ × ℕ → Bool
ties_with slot parts key row =
    is_key_at_most (key_in slot parts row) key && is_key_at_most key (key_in slot parts row)

-- Among the sorted rows, those whose keys tie with any key stand as in all rows, by segment, then
-- row, whether the order is reversed or not.
abbrev pub TiesStandAsTheyWere : Type 0
TiesStandAsTheyWere = (parts : List Part) (slot : Slot) (reversed : Bool) (key : Option Cell)
    → filter (ties_with slot parts key) (sorted_rows slot reversed parts)
    ≡ filter (ties_with slot parts key) (all_rows (row_counts parts))

-- the key of a document: its first cell under the slot, none where it has no such cell
abbrev pub key_under : Slot → Table → ℕ → Option Cell
key_under slot t d = option_and_then (λ c. slice_get (row_of c.content d) 0) (column_under slot t)

-- Where parts with sound columns are merged in a sorted order, with or without required columns,
-- keys never fall from document to document, or never rise where the order is reversed.
abbrev pub SortedMergesAreInOrder : Type 0
SortedMergesAreInOrder = (parts : List Part) (required : List Required) (slot : Slot)
    (reversed : Bool) (order : Order) (t : Table) → AllByRecursion HasSoundColumns parts
    → sorted_order parts slot reversed ≡ Ok order → merged parts required order ≡ Ok t
    → (i j : ℕ) → i ≤ j → j < t.row_count
    → are_keys_in_order reversed (key_under slot t i) (key_under slot t j) ≡ true
