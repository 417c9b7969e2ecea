-- What a sorted merge makes: its rows, and the order of their keys.
use Rattle.std.proofs.Common.{◌≡◌, ℕ, ◌^◌, ◌≤◌, ◌<◌, nat_le, Bool, true, false, ◌&&◌, List, [], map, length, slice_get, Some, None, Ok, refl, sym, ◌∙◌, ap, ap₂, subst, arith, unwrap_or, option_map, option_and_then, nat_eq, IsPermutation}
use Rattle.std.specs.Prelude.{Option}
use Rattle.std.specs.List.{list_all, AllByRecursion}
use Rattle.std.specs.Cmp.Lexicographic.{pointwise}
use Rattle.std.proofs.lemmas.Option.{slice_get-map}
use Rattle.col_model.specs.Category.{Slot}
use Rattle.col_model.specs.File.{Part}
use Rattle.col_model.specs.Lookup.{row_of}
use Rattle.col_model.specs.Merge.{Required, row_counts, has_bad_column, cells_in, joined_column, merged}
use Rattle.col_model.specs.Order.{Order, shuffle, all_rows, has_row, picks}
use Rattle.col_model.specs.Refusal.{◌>>=◌, refuse_if, or_refuse, invalid_data, too_large, bad_order}
use Rattle.col_model.specs.SortOrder.{are_keys_in_order}
use Rattle.col_model.specs.SortedOrder.{key_in, sorted_rows, sorted_order}
use Rattle.col_model.specs.Soundness.{HasSoundColumns}
use Rattle.col_model.specs.Table.{Cell, Column, Table}
use Rattle.col_model.proofs.ListLaws.{item-at}
use Rattle.col_model.proofs.MergedTables.{merged-is}
use Rattle.col_model.proofs.RefusalLaws.{refuse_if-ok, same_Ok}
use Rattle.col_model.proofs.SortLaws.{moved-sorted}
use Rattle.col_laws.specs.SortLaws.{SortedOrdersNameEachRow, ties_with, TiesStandAsTheyWere, key_under, SortedMergesAreInOrder}
use Rattle.col_laws.proofs.KeyOrderLemmas.{order-through, order-turned, tied-keys}
use Rattle.col_laws.proofs.MergeLemmas.{merged-made, column-made, picked-rows}
use Rattle.col_laws.proofs.RowKeyLemmas.{key-typed}
use Rattle.col_laws.proofs.SortedLemmas.{same-sorted, IsOrder, sorted-in-order}

-- the first row may stand before the second, by its key
abbrev may_precede : Slot → Bool → List Part → ℕ × ℕ → ℕ × ℕ → Bool
may_precede slot reversed parts a b = are_keys_in_order reversed (key_in slot parts a) (key_in slot parts b)

-- ---- the rows

-- a sorted order is the shuffle of the sorted rows
order-is : (parts : List Part) (slot : Slot) (reversed : Bool) (order : Order)
    → sorted_order parts slot reversed ≡ Ok order
    → shuffle (row_counts parts) (sorted_rows slot reversed parts) ≡ order
unfolding sorted_order
order-is parts slot reversed order e =
    let is = shuffle (row_counts parts) (sorted_rows slot reversed parts) in
    same_Ok is order (refuse_if-ok (has_bad_column slot parts) invalid_data (λ _. Ok is) order
    (refuse_if-ok (nat_le (2 ^ 32) (length (all_rows (row_counts parts)))) too_large
    (λ _. refuse_if (has_bad_column slot parts) invalid_data >>= λ _. Ok is) order e))

-- the sorted rows are all rows, moved
rows-moved : (parts : List Part) (slot : Slot) (reversed : Bool)
    → IsPermutation (all_rows (row_counts parts)) (sorted_rows slot reversed parts)
unfolding sorted_rows
rows-moved parts slot reversed =
    moved-sorted (may_precede slot reversed parts) (all_rows (row_counts parts))

-- A sorted order names each row once.
pub sorted-orders-name-each-row : SortedOrdersNameEachRow
sorted-orders-name-each-row parts slot reversed order e =
    record { is = sym (order-is parts slot reversed order e); moved = rows-moved parts slot reversed }

-- Rows whose keys tie stand as they did.
pub ties-stand-as-they-were : TiesStandAsTheyWere
unfolding sorted_rows
ties-stand-as-they-were parts slot reversed key =
    same-sorted (may_precede slot reversed parts) (ties_with slot parts key)
    (λ a b. tied-keys reversed key (key_in slot parts a) (key_in slot parts b)) (all_rows (row_counts parts))

-- ---- the keys of the merged table

-- rows are in an order by their keys
rows-order : (parts : List Part) (slot : Slot) (reversed : Bool) → AllByRecursion HasSoundColumns parts
    → IsOrder (may_precede slot reversed parts)
rows-order parts slot reversed sound = record {
  through = λ a b c. order-through reversed (key_in slot parts a) (key_in slot parts b) (key_in slot parts c);
  turned = λ a b.
      order-turned reversed slot.category (key_in slot parts a) (key_in slot parts b)
      (key-typed slot parts sound a) (key-typed slot parts sound b);
}

-- the rows that a sorted merge picks are the sorted ones
picked-sorted : (rows picked : List (ℕ × ℕ)) (counts : List ℕ)
    → or_refuse (picks (shuffle counts rows) counts) bad_order ≡ Ok picked → picked ≡ rows
unfolding picks
picked-sorted rows picked counts =
    picked-rows (pointwise nat_eq counts counts && list_all (has_row counts) rows) rows picked

-- the key of a column's row
abbrev key_of : Option Column → ℕ → Option Cell
key_of o d = option_and_then (λ c. slice_get (row_of c.content d) 0) o

-- a row of merged cells has the key of the row that was picked
key-picked : (slot : Slot) (parts : List Part) (picked : List (ℕ × ℕ)) (d : ℕ) (row : ℕ × ℕ)
    → slice_get picked d ≡ Some row
    → slice_get (unwrap_or (slice_get (map (cells_in slot parts) picked) d) []) 0 ≡ key_in slot parts row
key-picked slot parts picked d row e =
    ap (λ o. slice_get (unwrap_or o []) 0)
    (slice_get-map (cells_in slot parts) picked d ∙ ap (option_map (cells_in slot parts)) e)

-- where there are no keys, they are in order
nothing-first : (reversed : Bool) → are_keys_in_order reversed None None ≡ true
nothing-first false = refl
nothing-first true = refl

module _ (parts : List Part) (required : List Required) (slot : Slot) (reversed : Bool)
    (sound : AllByRecursion HasSoundColumns parts) where
  -- the sorted rows' keys are in order
  rows-sorted : (i j : ℕ) (a b : ℕ × ℕ) → i ≤ j → slice_get (sorted_rows slot reversed parts) i ≡ Some a
      → slice_get (sorted_rows slot reversed parts) j ≡ Some b
      → may_precede slot reversed parts a b ≡ true
  unfolding sorted_rows
  rows-sorted i j a b l p q =
      sorted-in-order (may_precede slot reversed parts)
      (rows-order parts slot reversed sound) (all_rows (row_counts parts)) i j a b l p q

  -- the keys of a column that is made of sorted rows are in order
  joined-order : (counts : List ℕ) (rows picked : List (ℕ × ℕ)) → picked ≡ sorted_rows slot reversed parts → (o : Option Column)
      → joined_column (shuffle counts rows) picked parts required slot ≡ Ok o → (i j : ℕ) → i ≤ j → j < length picked
      → are_keys_in_order reversed (key_of o i) (key_of o j) ≡ true
  joined-order counts rows picked s None e i j l h = nothing-first reversed
  joined-order counts rows picked s (Some c) e i j l h =
      let is = (merged-is (shuffle counts rows) picked parts required slot c e).is in
      let a = item-at picked i (omega arith) in
      let b = item-at picked j h in
      let key : (d : ℕ) (row : ℕ × ℕ) → slice_get picked d ≡ Some row → key_of (Some c) d ≡ key_in slot parts row =
      λ d row p. ap (λ c. key_of (Some c) d) (sym is) ∙ key-picked slot parts picked d row p in
      ap₂ (are_keys_in_order reversed) (key i a.0 a.1) (key j b.0 b.1)
      ∙ rows-sorted i j a.0 b.0 l (ap (λ rows. slice_get rows i) (sym s) ∙ a.1) (ap (λ rows. slice_get rows j) (sym s) ∙ b.1)

  -- the keys of a merge of the sorted rows are in order
  merged-order : (t : Table) → merged parts required (shuffle (row_counts parts) (sorted_rows slot reversed parts)) ≡ Ok t
      → (i j : ℕ) → i ≤ j → j < t.row_count
      → are_keys_in_order reversed (key_under slot t i) (key_under slot t j) ≡ true
  merged-order t e i j l h =
      let rows = sorted_rows slot reversed parts in
      let is = merged-made parts required (shuffle (row_counts parts) rows) t e in
      let s = picked-sorted rows is.picked (row_counts parts) is.picks_are in
      column-made parts required (shuffle (row_counts parts) rows) t slot
      (λ o. are_keys_in_order reversed (key_of o i) (key_of o j) ≡ true) sound is
      (λ o p. joined-order (row_counts parts) rows is.picked s o p i j l (subst (λ n. j < n) (ap (λ t. t.row_count) (sym is.is)) h))
      (λ _. nothing-first reversed)

-- The keys of a sorted merge never fall, or never rise where it is reversed.
pub sorted-merges-are-in-order : SortedMergesAreInOrder
sorted-merges-are-in-order parts required slot reversed order t sound e f =
    merged-order parts required slot reversed sound t
    (ap (merged parts required) (order-is parts slot reversed order e) ∙ f)
