-- The rows of a merged table are those that are picked.
use Rattle.std.proofs.Common.{◌≡◌, inl, inr, ℕ, zero, suc, ◌+◌, ◌^◌, nat_le, List, [], ◌∷◌, map, filter_map, length, slice_get, Option, Some, None, option_map, unwrap_or, refl, sym, ap, ◌∙◌}
use Rattle.std.specs.Prelude.{Result, Ok, ⊤}
use Rattle.std.specs.List.{range_with_len}
use Rattle.col_model.specs.Category.{Slot}
use Rattle.col_model.specs.File.{Part}
use Rattle.col_model.specs.Lookup.{row_of}
use Rattle.col_model.specs.Merge.{cells_in, kept_columns, joined_content, joined_column, all_slots, row_counts, merged}
use Rattle.col_model.specs.Order.{Order, stack, shuffle, picks}
use Rattle.col_model.specs.Refusal.{Refusal, ◌>>=◌, or_refuse, refuse_if, each_ok, bad_order, too_large}
use Rattle.col_model.specs.Table.{Column, Table}
use Rattle.col_model.proofs.MergedSound.{chosen-is}
use Rattle.col_model.proofs.MergedTables.{merged-is}
use Rattle.col_model.proofs.OrderedColumns.{EachIs, each-is}
use Rattle.col_model.proofs.RefusalLaws.{bind-ok, refuse_if-ok, same_Ok, err_not_ok}
use Rattle.col_segments.specs.Live.{Row, row_in}
use Rattle.col_segments.proofs.AbsentLemmas.{add_none, add_one, cells-empty, zero_plus}
use Rattle.col_segments.proofs.FoundLemmas.{IsFound, column_at, found-in}

get-map : {A B : Type 0} (f : A → B) (xs : List A) (i : ℕ) → slice_get (map f xs) i ≡ option_map f (slice_get xs i)
get-map f [] i = refl
get-map f (x ∷ xs) zero = refl
get-map f (x ∷ xs) (suc i) = get-map f xs i

-- what is so of each place
ranged : {X P : Type 0} (R : ℕ → X) (g : P → X) (k : ℕ) (ps : List P) → ((i : ℕ) (p : P) → slice_get ps i ≡ Some p → R (k + i) ≡ g p)
    → map R (range_with_len k (length ps)) ≡ map g ps
ranged R g k [] each = refl
ranged R g k (p ∷ ps) each =
    let first : R k ≡ g p = ap R (sym (add_none k)) ∙ each 0 p refl in
    let rest = ranged R g (k + 1) ps (λ i q at. ap R (sym (add_one k i)) ∙ each (suc i) q at) in
    λ i. first i ∷ rest i

-- ---- one row

module _ (order : Order) (picked : List (ℕ × ℕ)) (parts : List Part) (slot : Slot) where
  -- the rows of a joined column
  joined-rows : (c : Column) → joined_column order picked parts [] slot ≡ Ok (Some c) → c.content.rows ≡ map (cells_in slot parts) picked
  joined-rows c e =
      let joined = merged-is order picked parts [] slot c e in
      ap (λ (c : Column). c.content.rows) (sym joined.is) ∙ rows-of order (kept_columns slot picked parts)
    where
      rows-of : (o : Order) (kept : List Column) → (joined_content o slot picked parts kept).rows ≡ map (cells_in slot parts) picked
      rows-of (stack own) kept = refl
      rows-of (shuffle own picks) kept = refl

  -- the row of a merged table is the row that its pick names
  merged-row : (os : List (Option Column)) (n i : ℕ) (q : ℕ × ℕ) → EachIs (joined_column order picked parts []) (all_slots parts []) os
      → slice_get picked i ≡ Some q
      → row_in (record { row_count = n; columns = filter_map (λ o. o) os }) i slot ≡ cells_in slot parts q
  merged-row os n i q each at = by (found-in order picked parts slot (all_slots parts []) os each)
    where
      by : IsFound order picked parts slot (all_slots parts []) (filter_map (λ o. o) os)
          → unwrap_or (option_map (λ c. row_of c.content i) (column_at slot (filter_map (λ o. o) os))) [] ≡ cells_in slot parts q
      by (inl found) =
          ap (λ o. unwrap_or (option_map (λ c. row_of c.content i) o) []) found.1
          ∙ ap (λ rows. unwrap_or (slice_get rows i) []) (joined-rows found.0 found.2)
          ∙ ap (λ o. unwrap_or o []) (get-map (cells_in slot parts) picked i ∙ ap (option_map (cells_in slot parts)) at)
      by (inr none) =
          ap (λ o. unwrap_or (option_map (λ c. row_of c.content i) o) []) none.0
          ∙ sym (cells-empty order picked parts slot i q at none.1)

-- ---- all rows

-- the rows that picks name
abbrev pub rows_at : List Part → ℕ × ℕ → Row
rows_at parts q slot = cells_in slot parts q

-- the rows of a merged table are those that are picked
pub merged-rows : (parts : List Part) (picked : List (ℕ × ℕ)) (counts : List ℕ) (t : Table)
    → merged parts [] (shuffle counts picked) ≡ Ok t → map (row_in t) (range_with_len 0 t.row_count) ≡ map (rows_at parts) picked
unfolding merged picks
merged-rows parts picked counts t h =
    let order : Order = shuffle counts picked in
    let make : List (ℕ × ℕ) → List (Option Column) → Table =
    λ ps columns. record { row_count = length ps; columns = filter_map (λ c. c) columns } in
    let columns : List (ℕ × ℕ) → ⊤ → Result Table Refusal =
    λ ps _. each_ok (joined_column order ps parts []) (all_slots parts []) >>= λ columns. Ok (make ps columns) in
    let first =
    bind-ok (or_refuse (picks order (row_counts parts)) bad_order)
    (λ ps. refuse_if (nat_le (2 ^ 32) (length ps)) too_large >>= columns ps) t h in
    let same : picked ≡ first.0 = chosen-is _ picked first.0 (picks-of _ first.0 first.1) in
    let second = refuse_if-ok (nat_le (2 ^ 32) (length first.0)) too_large (columns first.0) t first.2 in
    let step =
    bind-ok (each_ok (joined_column order first.0 parts []) (all_slots parts [])) (λ columns. Ok (make first.0 columns)) t second in
    let each = each-is (joined_column order first.0 parts []) (all_slots parts []) step.0 step.1 in
    let is : make first.0 step.0 ≡ t = same_Ok (make first.0 step.0) t step.2 in
    let rows =
    ranged (row_in (make first.0 step.0)) (rows_at parts) 0 first.0
    (λ i q at. ap (row_in (make first.0 step.0)) (zero_plus i) ∙ same-rows first.0 step.0 i q each at) in
    ap (λ (t : Table). map (row_in t) (range_with_len 0 t.row_count)) (sym is) ∙ rows ∙ ap (map (rows_at parts)) (sym same)
  where
    same-rows : (ps : List (ℕ × ℕ)) (os : List (Option Column)) (i : ℕ) (q : ℕ × ℕ)
        → EachIs (joined_column (shuffle counts picked) ps parts []) (all_slots parts []) os → slice_get ps i ≡ Some q
        → row_in (record { row_count = length ps; columns = filter_map (λ c. c) os }) i ≡ rows_at parts q
    same-rows ps os i q each at = λ j. λ slot. merged-row (shuffle counts picked) ps parts slot os (length ps) i q each at j

    picks-of : (o : Option (List (ℕ × ℕ))) (ps : List (ℕ × ℕ)) → or_refuse o bad_order ≡ Ok ps → o ≡ Some ps
    picks-of (Some x) ps e = ap Some (same_Ok x ps e)
    picks-of None ps e = absurd (err_not_ok bad_order ps e)
