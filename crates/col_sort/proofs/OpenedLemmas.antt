-- The sorted order of parts, by the columns that were opened.
use Rattle.std.proofs.Common.{◌≡◌, ◌<◌, ◌≤◌, ◌^◌, ℕ, zero, suc, Bool, true, false, List, [], ◌∷◌, length, sum, find, cond, ◌||◌, le-leb, refl, sym, ◌∙◌, ap, arith}
use Rattle.std.specs.Prelude.{◌&&◌, nat_le, Option, Some, None, Result, Ok, Err, IfSome, is_some, is_none, slice_get, slice_index_or, unwrap_or, option_map, option_and_then}
use Rattle.col_model.specs.Category.{Slot, same_slot}
use Rattle.col_model.specs.File.{Part, PartColumn, whole_column}
use Rattle.col_model.specs.Lookup.{row_of}
use Rattle.col_model.specs.Merge.{part_slot, column_in, whole_column_in, has_bad_column, row_counts}
use Rattle.col_model.specs.Order.{Order, shuffle, all_rows}
use Rattle.col_model.specs.Refusal.{Refusal, ◌>>=◌, refuse_if, invalid_data, too_large}
use Rattle.col_model.specs.Sorted.{sorted_items}
use Rattle.col_model.specs.SortOrder.{are_keys_in_order}
use Rattle.col_model.specs.SortedOrder.{key_in, sorted_rows, sorted_order}
use Rattle.col_model.specs.Table.{Column}
use Rattle.col_model.proofs.OrderedColumns.{same-slots}
use Rattle.col_model.proofs.SharedTypes.{some≢none, same-some}
use Rattle.col_order.proofs.PickLemmas.{length-all_rows}
use Rattle.col_dynamic.specs.Dynamic.{content_of}
use Rattle.col_dynamic.specs.declared.dynamic_column.DynamicColumn.{DynamicColumn}
use Rattle.col_merge_slot.specs.JoinedSlots.{part_seen}
use Rattle.col_merge_slot.specs.Segments.{IsOfCategory}
use Rattle.col_sort.specs.Columns.{first_in, AreOf, rows_by_cells}

-- ---- the definition, by its tests

order_by : Bool → Bool → Order → Result Order Refusal
order_by many bad order = refuse_if many too_large >>= λ _. refuse_if bad invalid_data >>= λ _. Ok order

by-tests : (parts : List Part) (slot : Slot) (reversed : Bool) (many bad : Bool)
    → nat_le (2 ^ 32) (length (all_rows (row_counts parts))) ≡ many → has_bad_column slot parts ≡ bad
    → sorted_order parts slot reversed ≡ order_by many bad (shuffle (row_counts parts) (sorted_rows slot reversed parts))
unfolding sorted_order order_by
by-tests parts slot reversed many bad e f =
    λ i. order_by (e i) (f i) (shuffle (row_counts parts) (sorted_rows slot reversed parts))

-- too many rows
pub too-many : (parts : List Part) (slot : Slot) (reversed : Bool) → 2 ^ 32 ≤ sum (row_counts parts)
    → sorted_order parts slot reversed ≡ Err too_large
unfolding order_by
too-many parts slot reversed h =
    let many = length-all_rows (row_counts parts) in
    let past : nat_le (2 ^ 32) (length (all_rows (row_counts parts))) ≡ true = le-leb _ _ (omega (arith, many)) in
    by-tests parts slot reversed true (has_bad_column slot parts) past refl

not-many : (parts : List Part) → sum (row_counts parts) < 2 ^ 32 → nat_le (2 ^ 32) (length (all_rows (row_counts parts))) ≡ false
not-many parts h =
    let many = length-all_rows (row_counts parts) in
    let few : length (all_rows (row_counts parts)) < 2 ^ 32 = omega (arith, many) in
    grind arith

-- a column outside the grammar
pub some-bad : (parts : List Part) (slot : Slot) (reversed : Bool) → sum (row_counts parts) < 2 ^ 32
    → has_bad_column slot parts ≡ true → sorted_order parts slot reversed ≡ Err invalid_data
unfolding order_by
some-bad parts slot reversed few bad = by-tests parts slot reversed false true (not-many parts few) bad

pub none-bad : (parts : List Part) (slot : Slot) (reversed : Bool) → sum (row_counts parts) < 2 ^ 32
    → has_bad_column slot parts ≡ false
    → sorted_order parts slot reversed ≡ Ok (shuffle (row_counts parts) (sorted_rows slot reversed parts))
unfolding order_by
none-bad parts slot reversed few bad = by-tests parts slot reversed false false (not-many parts few) bad

-- ---- parts whose columns were opened

module _ (slot : Slot) where
  -- a part's column is the one that was opened
  abbrev pub IsColumnOf : Part → Option DynamicColumn → Type 0
  IsColumnOf p o = column_in slot p ≡ option_map (part_seen slot.name) o

  whole : (p : Part) (o : Option DynamicColumn) → IsColumnOf p o
      → (is_some (column_in slot p) && is_none (whole_column_in slot p)) ≡ false
  whole p None e = ap (λ c. is_some c && is_none (option_and_then whole_column c)) e
  whole p (Some c) e = ap (λ c. is_some c && is_none (option_and_then whole_column c)) e

  pub all-whole : (parts : List Part) (os : ℕ → Option DynamicColumn)
      → ((k : ℕ) (p : Part) → slice_get parts k ≡ Some p → IsColumnOf p (os k)) → has_bad_column slot parts ≡ false
  all-whole [] os at = refl
  all-whole (p ∷ parts) os at =
      ap (λ b. b || has_bad_column slot parts) (whole p (os 0) (at 0 p refl))
      ∙ all-whole parts (λ k. os (suc k)) (λ k q e. at (suc k) q e)

  cells-of : (p : Part) (o : Option DynamicColumn) (r : ℕ) → IsColumnOf p o
      → unwrap_or (option_map (λ (c : Column). row_of c.content r) (whole_column_in slot p)) []
      ≡ unwrap_or (option_map (λ c. row_of (content_of c) r) o) []
  cells-of p None r e =
      ap (λ c. unwrap_or (option_map (λ (c : Column). row_of c.content r) (option_and_then whole_column c)) []) e
  cells-of p (Some c) r e =
      ap (λ c. unwrap_or (option_map (λ (c : Column). row_of c.content r) (option_and_then whole_column c)) []) e

  -- the key of a row is the cell that it begins with
  key-is : (parts : List Part) (os : List (Option DynamicColumn)) (a : ℕ × ℕ) → length os ≡ length parts
      → ((k : ℕ) (p : Part) → slice_get parts k ≡ Some p → IsColumnOf p (slice_index_or os k None))
      → key_in slot parts a ≡ first_in os a
  key-is parts os (s, r) long at = by parts os s long at
    where
      by : (parts : List Part) (os : List (Option DynamicColumn)) (s : ℕ) → length os ≡ length parts
          → ((k : ℕ) (p : Part) → slice_get parts k ≡ Some p → IsColumnOf p (slice_index_or os k None))
          → key_in slot parts (s, r) ≡ first_in os (s, r)
      by [] [] s long at = refl
      by [] (o ∷ os) s long at = absurd (omega arith)
      by (p ∷ parts) [] s long at = absurd (omega arith)
      by (p ∷ parts) (o ∷ os) zero long at = ap (λ cs. slice_get cs 0) (cells-of p o r (at 0 p refl))
      by (p ∷ parts) (o ∷ os) (suc s) long at = by parts os s (omega arith) (λ k q e. at (suc k) q e)

  -- rows by their keys are those by their columns' cells
  pub rows-are : (reversed : Bool) (parts : List Part) (os : List (Option DynamicColumn)) (counts : List ℕ)
      → length os ≡ length parts → row_counts parts ≡ counts
      → ((k : ℕ) (p : Part) → slice_get parts k ≡ Some p → IsColumnOf p (slice_index_or os k None))
      → sorted_rows slot reversed parts ≡ rows_by_cells reversed os counts
  unfolding sorted_rows rows_by_cells
  rows-are reversed parts os counts long same at =
      λ i. sorted_items (λ a b. are_keys_in_order reversed (key-is parts os a long at i) (key-is parts os b long at i))
      (all_rows (same i))

  found-passes : (cs : List PartColumn) (d : PartColumn) → find (λ c. same_slot (part_slot c) slot) cs ≡ Some d
      → same_slot (part_slot d) slot ≡ true
  found-passes [] d e = absurd (some≢none d (sym e))
  found-passes (c ∷ cs) d e = by (same_slot (part_slot c) slot) refl e (found-passes cs d)
    where
      by : (b : Bool) → same_slot (part_slot c) slot ≡ b
          → cond b (Some c) (find (λ c. same_slot (part_slot c) slot) cs) ≡ Some d
          → (find (λ c. same_slot (part_slot c) slot) cs ≡ Some d → same_slot (part_slot d) slot ≡ true)
          → same_slot (part_slot d) slot ≡ true
      by true p q later = ap (λ c. same_slot (part_slot c) slot) (sym (same-some c d q)) ∙ p
      by false p q later = later q

  -- opened columns are of the slot's category
  pub opened-of : (os : List (Option DynamicColumn)) (parts : List Part) → length os ≡ length parts
      → ((k : ℕ) (p : Part) → slice_get parts k ≡ Some p → IsColumnOf p (slice_index_or os k None)) → AreOf slot.category os
  opened-of [] parts long at = tt
  opened-of (o ∷ os) [] long at = absurd (omega arith)
  opened-of (o ∷ os) (p ∷ parts) long at =
      (by o (at 0 p refl), opened-of os parts (omega arith) (λ k q e. at (suc k) q e))
    where
      by : (o : Option DynamicColumn) → IsColumnOf p o → IfSome o (IsOfCategory slot.category)
      by None e = tt
      by (Some c) e =
          ap (λ (s : Slot). s.category)
          (same-slots (part_slot (part_seen slot.name c)) slot (found-passes p.columns (part_seen slot.name c) e))
