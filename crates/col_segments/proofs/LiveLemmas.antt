-- Compaction keeps the rows that are alive.
use Rattle.std.proofs.Common.{◌≡◌, ℕ, suc, ◌+◌, ◌==◌, not, Bool, true, false, cond, List, [], ◌∷◌, ◌++◌, map, find, flat_map, length, slice_get, Option, Some, option_map, option_and_then, unwrap_or, refl, ap, ◌∙◌, arith, length-append}
use Rattle.std.specs.Prelude.{Ok}
use Rattle.std.specs.List.{range_with_len, enumerate_from}
use Rattle.std.proofs.lemmas.List.{map-append, append-nil, length-map}
use Rattle.std.proofs.lemmas.List.Sums.{sum_by-cons}
use Rattle.col_model.specs.Category.{Slot, same_slot}
use Rattle.col_model.specs.File.{Part, PartColumn, part_of_column, part_of_table, whole_column}
use Rattle.col_model.specs.Lookup.{row_of}
use Rattle.col_model.specs.Merge.{part_slot, whole_column_in, cells_in}
use Rattle.col_model.specs.Table.{Column, Table}
use Rattle.col_model.proofs.SeenLaws.{not-zero}
use Rattle.col_model.proofs.SlotLaws.{column_slot}
use Rattle.col_segments.specs.Live.{row_in, live, with_alive, addresses, merged_alive}
use Rattle.col_segments.specs.Segments.{HeldTable, alive_count, all_alive}
use Rattle.col_segments.proofs.FoundLemmas.{column_at}
use Rattle.col_segments.proofs.PickedLemmas.{merged-rows, rows_at}

-- ---- the rows of tables

-- a column of a table, as a part has it
pub part-column : (slot : Slot) (cs : List Column)
    → option_and_then whole_column (find (λ c. same_slot (part_slot c) slot) (map part_of_column cs)) ≡ column_at slot cs
part-column slot [] = refl
part-column slot (c ∷ cs) = by (same_slot (column_slot c) slot) (part-column slot cs)
  where
    rest : Option PartColumn
    rest = find (λ c. same_slot (part_slot c) slot) (map part_of_column cs)

    by : (b : Bool) → option_and_then whole_column rest ≡ column_at slot cs
        → option_and_then whole_column (cond b (Some (part_of_column c)) rest) ≡ cond b (Some c) (column_at slot cs)
    by true later = refl
    by false later = later

-- a row of a table
table-row : (parts : List Part) (k r : ℕ) (t : Table) → slice_get parts k ≡ Some (part_of_table t) → rows_at parts (k, r) ≡ row_in t r
table-row parts k r t at = λ i. λ slot. whole slot i
  where
    whole : (slot : Slot) → cells_in slot parts (k, r) ≡ row_in t r slot
    whole slot =
        ap (λ o. unwrap_or (option_map (λ c. row_of c.content r) (option_and_then (whole_column_in slot) o)) []) at
        ∙ ap (λ o. unwrap_or (option_map (λ c. row_of c.content r) o) []) (part-column slot t.columns)

abbrev parts_in : List HeldTable → List Part
parts_in hs = map part_of_table (map (λ h. h.table) hs)

abbrev addresses_from : ℕ → List HeldTable → List (ℕ × ℕ)
addresses_from k hs = flat_map (λ p. map (λ r. (p.0, r)) p.1.alive) (enumerate_from k hs)

-- the rows at the addresses of those alive are these rows
rows-named : (parts : List Part) (k : ℕ) (hs : List HeldTable) → ((i : ℕ) → slice_get parts (k + i) ≡ slice_get (parts_in hs) i)
    → map (rows_at parts) (addresses_from k hs) ≡ live hs
rows-named parts k [] same = refl
rows-named parts k (h ∷ hs) same =
    let at : slice_get parts k ≡ Some (part_of_table h.table) = ap (slice_get parts) (add_none k) ∙ same 0 in
    map-append (rows_at parts) (map (λ r. (k, r)) h.alive) (addresses_from (k + 1) hs)
    ∙ (λ i. named h.alive at i ++ rows-named parts (k + 1) hs (λ j. ap (slice_get parts) (one_more k j) ∙ same (suc j)) i)
  where
    add_none : (n : ℕ) → n ≡ n + 0
    add_none n = omega arith

    one_more : (n i : ℕ) → n + 1 + i ≡ n + suc i
    one_more n i = omega arith

    named : (rows : List ℕ) → slice_get parts k ≡ Some (part_of_table h.table)
        → map (rows_at parts) (map (λ r. (k, r)) rows) ≡ map (row_in h.table) rows
    named [] at = refl
    named (r ∷ rows) at = λ i. table-row parts k r h.table at i ∷ named rows at i

-- tables without a row alive add none
with-rows-live : (hs : List HeldTable) → live (with_alive hs) ≡ live hs
with-rows-live [] = refl
with-rows-live (h ∷ hs) = by h.alive (with-rows-live hs)
  where
    own : List ℕ → HeldTable
    own alive = record { table = h.table; alive = alive }

    by : (alive : List ℕ) → live (with_alive hs) ≡ live hs
        → live (cond (not (length alive == 0)) (own alive ∷ with_alive hs) (with_alive hs)) ≡ map (row_in h.table) alive ++ live hs
    by [] later = later
    by (r ∷ alive) later =
        ap (λ b. live (cond (not b) (own (r ∷ alive) ∷ with_alive hs) (with_alive hs))) (not-zero (length alive))
        ∙ ap (λ rest. map (row_in h.table) (r ∷ alive) ++ rest) later

-- The rows that are alive stay.
pub compacted-live : (hs : List HeldTable) (t : Table) → merged_alive hs ≡ Ok t → live (all_alive t ∷ []) ≡ live hs
compacted-live hs t h =
    let kept = with_alive hs in
    append-nil (map (row_in t) (range_with_len 0 t.row_count))
    ∙ merged-rows (parts_in kept) (addresses kept) (map (λ t. t.row_count) (map (λ (h : HeldTable). h.table) kept)) t h
    ∙ rows-named (parts_in kept) 0 kept (λ i. ap (slice_get (parts_in kept)) (zero_plus i))
    ∙ with-rows-live hs
  where
    zero_plus : (n : ℕ) → 0 + n ≡ n
    zero_plus n = omega arith

-- there are as many rows as are counted
pub live-length : (hs : List HeldTable) → length (live hs) ≡ alive_count hs
live-length [] = refl
live-length (h ∷ hs) =
    let both = length-append (map (row_in h.table) h.alive) (live hs) in
    let own = length-map h.alive (row_in h.table) in
    omega (arith, both, own, live-length hs, sum_by-cons (λ (g : HeldTable). length g.alive) h hs)
