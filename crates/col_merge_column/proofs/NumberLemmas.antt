-- The bytes of joined numbers stand for the cells of the picked rows.
use Rattle.std.proofs.Common.{◌≡◌, ℕ, zero, suc, Bool, true, cond, List, [], ◌∷◌, ◌++◌, length, map, take, drop, get_or, Option, Some, refl, sym, ap, ap₂, ◌∙◌}
use Rattle.std.specs.List.{list_all, All, AllByRecursion}
use Rattle.std.proofs.lemmas.Bool.{and_from}
use Rattle.std.proofs.lemmas.List.{length-map}
use Rattle.std.proofs.lemmas.List.Elements.{recursion_from_All}
use Rattle.col_common.specs.Reading.{◌>>=◌}
use Rattle.col_model.specs.Column.{number_rows, number_cell, is_stored, term_column, cut_content, column}
use Rattle.col_model.specs.ColumnType.{ColumnType}
use Rattle.col_model.specs.Dictionary.{cut}
use Rattle.col_model.specs.Table.{Cell}
use Rattle.col_model.specs.U64List.{joined_lists}
use Rattle.col_model.specs.Version.{current_version}
use Rattle.col_model.proofs.StatsLaws.{mapped_all, all_by}
use Rattle.col_order.specs.Orders.{picks_of}
use Rattle.col_values.specs.Monotonic.{Passes}
use Rattle.col_types.specs.Stored.{IsStoredAs}
use Rattle.col_index.specs.Offsets.{cardinality_in}
use Rattle.col_numbers.specs.NumValues.{num_values_of}
use Rattle.col_numbers.specs.declared.num_values.NumValues.{NumValues}
use Rattle.col_indexer.specs.Merged.{IsMerged, merged_counts}
use Rattle.col_indexer.specs.Spelling.{Index, index_shape}
use Rattle.col_column.specs.Columns.{row_count, rows_by, row_at}
use Rattle.col_column.specs.Opened.{counted_rows}
use Rattle.col_merge_values.proofs.MergedCellLemmas.{rows-map, merged-counts}
use Rattle.col_merge_values.proofs.MergedRowLemmas.{merged-rows}
use Rattle.col_merge_values.specs.Laws.{IsOrdered}
use Rattle.col_merge_values.specs.Merges.{SegmentColumns, segment_values, merged_rows, merged_values, Merge, IsMerge, values_of}
use Rattle.col_merge_column.specs.Joins.{picked_content}
use Rattle.col_merge_column.proofs.LimitLemmas.{counts-are}

-- ---- what holds of all values holds of those that are picked

module _ {A : Type 0} (P : A → Type 0) where
  abbrev AllOf : List A → Type 0
  AllOf xs = AllByRecursion P xs

  all-take : (n : ℕ) (xs : List A) → AllOf xs → AllOf (take n xs)
  all-take zero xs h = tt
  all-take (suc n) [] h = tt
  all-take (suc n) (x ∷ xs) h = (h.0, all-take n xs h.1)

  all-drop : (n : ℕ) (xs : List A) → AllOf xs → AllOf (drop n xs)
  all-drop zero xs h = h
  all-drop (suc n) [] h = tt
  all-drop (suc n) (x ∷ xs) h = all-drop n xs h.1

  all-append : (xs ys : List A) → AllOf xs → AllOf ys → AllOf (xs ++ ys)
  all-append [] ys h k = k
  all-append (x ∷ xs) ys h k = (h.0, all-append xs ys h.1 k)

  all-cut : (cs : List ℕ) (xs : List A) → AllOf xs → AllByRecursion AllOf (cut cs xs)
  unfolding cut
  all-cut [] xs h = tt
  all-cut (c ∷ cs) xs h = (all-take c xs h, all-cut cs (drop c xs) (all-drop c xs h))

  all-row : (rows : List (List A)) (d : ℕ) → AllByRecursion AllOf rows → AllOf (row_at rows d)
  all-row [] zero h = tt
  all-row [] (suc d) h = tt
  all-row (r ∷ rows) zero h = h.0
  all-row (r ∷ rows) (suc d) h = all-row rows d h.1

  all-list : (xss : List (List A)) (k : ℕ) → AllByRecursion AllOf xss → AllOf (get_or xss k [])
  all-list [] zero h = tt
  all-list [] (suc k) h = tt
  all-list (xs ∷ xss) zero h = h.0
  all-list (xs ∷ xss) (suc k) h = all-list xss k h.1

  -- of each picked row
  all-picked : (c : SegmentColumns A) (ps : List (ℕ × ℕ)) → AllByRecursion AllOf c.lists → AllByRecursion AllOf (merged_rows c ps)
  unfolding rows_by
  all-picked c [] h = tt
  all-picked c (p ∷ ps) h = (all-row _ p.1 (all-cut _ (segment_values c p.0) (all-list c.lists p.0 h)), all-picked c ps h)

  all-joined : (xss : List (List A)) → AllByRecursion AllOf xss → AllOf (joined_lists xss)
  all-joined [] h = tt
  all-joined (xs ∷ xss) h = all-append xs (joined_lists xss) h.0 (all-joined xss h.1)

  -- and of their values
  all-merged : (c : SegmentColumns A) (ps : List (ℕ × ℕ)) → AllByRecursion AllOf c.lists → AllOf (merged_values c ps)
  unfolding merged_values
  all-merged c ps h = all-joined (merged_rows c ps) (all-picked c ps h)

-- lists of values as they are told
pub lists-told : {T : Type 0} (P : T → Type 0) (values : List (NumValues T))
    → AllByRecursion (λ v. All P (num_values_of v)) values
    → AllByRecursion (λ xs. AllByRecursion P xs) (map num_values_of values)
lists-told P values h =
    mapped_all (λ xs. AllByRecursion P xs) num_values_of values
    (all_by (λ v. recursion_from_All P (num_values_of v)) values h)

-- ---- numbers and cells

module _ {T : Type 0} (kind : ColumnType) (cell : T → Cell) (code : T → ℕ) (value : ℕ → T) (is_code : ℕ → Bool)
    (in_type : T → Bool) (list : List ℕ → Option (List ℕ)) (stored : IsStoredAs list kind cell value is_code)
    (image : (x : T) → Passes in_type x → Passes is_code (code x)) (undoes : (x : T) → Passes in_type x
    → value (code x) ≡ x) where
  abbrev InType : List T → Type 0
  InType xs = AllByRecursion (Passes in_type) xs

  cells-of : (xs : List T) → InType xs → map (number_cell kind) (map code xs) ≡ map cell xs
  cells-of [] h = refl
  cells-of (x ∷ xs) h = ap₂ (λ a b. a ∷ b) (stored.cells (code x) (image x h.0) ∙ ap cell (undoes x h.0)) (cells-of xs h.1)

  row-cells : (rows : List (List T)) → AllByRecursion InType rows → map (map (number_cell kind)) (map (map code) rows) ≡ map (map cell) rows
  row-cells [] h = refl
  row-cells (r ∷ rows) h = ap₂ (λ a b. a ∷ b) (cells-of r h.0) (row-cells rows h.1)

  -- the numbers are some that a column of the type stores
  are-stored : (xs : List T) → InType xs → list_all (is_stored kind) (map code xs) ≡ true
  are-stored [] h = refl
  are-stored (x ∷ xs) h =
      and_from (is_stored kind (code x)) (list_all (is_stored kind) (map code xs))
      (stored.stored (code x) ∙ image x h.0) (are-stored xs h.1)

  -- bytes that stand for the numbers' rows are a column of the picked rows
  pub rows-joined : (m : Merge T) (i : Index) → IsMerge m → IsOrdered m → IsMerged m.order m.columns.shapes i
      → AllByRecursion InType m.columns.lists → (bytes : List ℕ)
      → number_rows bytes kind current_version (row_count (index_shape i) (length (map code (values_of m))))
      ≡ Some (counted_rows (index_shape i) (map code (values_of m)))
      → column bytes kind current_version (length (picks_of m.order)) ≡ Some (picked_content cell m)
  unfolding column
  rows-joined m i is ordered merged all bytes read =
      let s = index_shape i in
      let xs = values_of m in
      let n = length (picks_of m.order) in
      let picked = merged_rows m.columns (picks_of m.order) in
      let has = merged-rows T m s (merged_counts m.order m.columns.shapes) is ordered (merged-counts m i merged) in
      let count : row_count s (length (map code xs)) ≡ n = ap (row_count s) (length-map xs code) ∙ has.num_rows in
      let card : cardinality_in s ≡ (merged_counts m.order m.columns.shapes).cardinality =
      counts-are n s (merged_counts m.order m.columns.shapes) merged in
      let rows : map (map (number_cell kind)) (rows_by s (map code xs)) ≡ map (map cell) picked =
      ap (map (map (number_cell kind))) (rows-map code s xs ∙ ap (map (map code)) has.rows)
      ∙ row-cells picked (all-picked (Passes in_type) m.columns (picks_of m.order) all) in
      ap (λ b. cond b (term_column bytes kind current_version n)
      (number_rows bytes kind current_version n >>= λ p. Some (cut_content [] (number_cell kind) p))) stored.without_terms
      ∙ ap (λ k. number_rows bytes kind current_version k >>= λ p. Some (cut_content [] (number_cell kind) p)) (sym count)
      ∙ ap (λ o. o >>= λ p. Some (cut_content [] (number_cell kind) p)) read
      ∙ (λ j. Some (record { cardinality = card j; terms = []; rows = rows j }))

  -- the numbers of the picked rows are stored by 64 bits
  pub merged-stored : (m : Merge T) → AllByRecursion InType m.columns.lists → list_all (is_stored kind) (map code (values_of m)) ≡ true
  merged-stored m all = are-stored (values_of m) (all-merged (Passes in_type) m.columns (picks_of m.order) all)
