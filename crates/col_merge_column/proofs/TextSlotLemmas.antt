-- What stands in a joined column of terms is what the definition of merged tables joins.
use Rattle.std.proofs.Common.{◌≡◌, ℕ, zero, suc, ◌+◌, ◌<◌, ◌==◌, ◌&&◌, nat_lt, Bool, true, false, cond, List, [], ◌∷◌, ◌++◌, length, map, drop, slice_get, unwrap_or, option_map, Option, Some, None, refl, sym, ap, ap₂, ◌∙◌, arith}
use Rattle.std.specs.List.{list_all, list_any, enumerate_from, filter_map, cons_option, fold}
use Rattle.std.specs.Prelude.{option_and_then}
use Rattle.std.specs.Ordering.{nat_cmp}
use Rattle.std.specs.Cmp.Lexicographic.{slice_cmp}
use Rattle.std.proofs.lemmas.Bool.{and_parts}
use Rattle.std.proofs.lemmas.List.{drop-drop, length-map}
use Rattle.col_common.specs.Reading.{only_if}
use Rattle.col_model.specs.Category.{Slot}
use Rattle.col_model.specs.Column.{term_cell}
use Rattle.col_model.specs.File.{Part}
use Rattle.col_model.specs.Index.{Shape, empty_shape}
use Rattle.col_model.specs.Limits.{tightest}
use Rattle.col_model.specs.Lookup.{row_of}
use Rattle.col_model.specs.Merge.{cells_in, whole_column_in, kept_column, segment_cardinality, greater_cardinality, row_counts}
use Rattle.col_model.specs.Order.{stack, shuffle, has_row, all_rows}
use Rattle.col_model.specs.Sorted.{distinct_items}
use Rattle.col_model.specs.Table.{Column, Content}
use Rattle.col_model.specs.Table as tables
use Rattle.col_model.specs.U64List.{joined_lists}
use Rattle.col_model.specs.Written.{texts_of}
use Rattle.col_index.specs.Offsets.{cardinality_in}
use Rattle.col_indexer.specs.Counted.{tightest_of}
use Rattle.col_column.proofs.RowLemmas.{row-empty}
use Rattle.col_column.specs.Columns.{rows_by, row_at, num_docs_in}
use Rattle.col_numbers.specs.NumValues.{num_values_of}
use Rattle.col_indexer.proofs.TightestLemmas.{segment_named, tightest-counts}
use Rattle.col_column.proofs.CellLemmas.{row-map}
use Rattle.col_text.specs.Texts.{Texts, texts_content}
use Rattle.col_merge_texts.specs.Items.{terms_of}
use Rattle.col_merge_texts.specs.Merged.{shapes_of, picked_cells}
use Rattle.col_merge_texts.proofs.CallerLemmas.{texts-lengths}
use Rattle.col_merge_values.proofs.MergedRowLemmas.{picks-there, slice_get-first}
use Rattle.col_merge_column.proofs.SlotLemmas.{empty-row, part-at, cells-named}
use Rattle.col_merge_column.specs.TextSlots.{IsTextsKeptAs, AreTextsKeptAs, MergedContentIsJoined}

-- ---- the cells of a picked row

module _ (slot : Slot) (picked : List (ℕ × ℕ)) (part : Part) (c : Texts) (k d : ℕ) where
  -- a column that isn't kept has no cell
  none-row : (c.ords.shape ≡ empty_shape part.row_count) × (c.terms ≡ []) → row_of (texts_content c) d ≡ []
  unfolding rows_by
  none-row is =
      row-map (term_cell c.terms) (rows_by c.ords.shape (num_values_of c.ords.values)) d
      ∙ ap (λ (s : Shape). map (term_cell c.terms) (row_at (rows_by s (num_values_of c.ords.values)) d)) is.0
      ∙ ap (map (term_cell c.terms)) (row-empty part.row_count (num_values_of c.ords.values) d)

  text-cells : (o : Option Column) (i : ℕ) → slice_get picked i ≡ Some (k, d)
      → IsTextsKeptAs part.row_count (option_and_then
      (λ b. only_if (list_any (λ q. (q.0 == k) && nat_lt 0 (length (row_of b.content q.1))) picked) b) o) c
      → unwrap_or (option_map (λ b. row_of b.content d) o) [] ≡ row_of (texts_content c) d
  text-cells None i at is = sym (none-row is)
  text-cells (Some column) i at is = go (list_any (λ q. (q.0 == k) && nat_lt 0 (length (row_of column.content q.1))) picked) refl is
    where
      go : (b : Bool) → list_any (λ q. (q.0 == k) && nat_lt 0 (length (row_of column.content q.1))) picked ≡ b
          → IsTextsKeptAs part.row_count (only_if b column) c → row_of column.content d ≡ row_of (texts_content c) d
      go true e is = ap (λ (content : Content). row_of content d) is
      go false e is =
          empty-row (term_cell c.terms) slot picked part c.ords.shape (num_values_of c.ords.values) k d column i at
          e ∙ sym (none-row is)

-- ---- segments

text-at : (columns : List Texts) (k : ℕ) → k < length columns → (c : Texts) × (slice_get columns k ≡ Some c)
text-at [] k h = absurd (omega (arith, h))
text-at (c ∷ cs) zero h = (c, refl)
text-at (c ∷ cs) (suc k) h = text-at cs k (omega (arith, h))

module _ (slot : Slot) (parts : List Part) (columns : List Texts) (picked : List (ℕ × ℕ))
    (kept : AreTextsKeptAs slot picked parts columns) where
  -- each picked row has the cells of its segment
  text-rows : (ps : List (ℕ × ℕ)) (i : ℕ) → length columns ≡ length parts → drop i picked ≡ ps
      → list_all (has_row (row_counts parts)) ps ≡ true
      → map (picked_cells columns) ps ≡ map (cells_in slot parts) ps
  text-rows [] i long e all = refl
  text-rows ((k, d) ∷ ps) i long e all =
      let tests = and_parts (has_row (row_counts parts) (k, d)) (list_all (has_row (row_counts parts)) ps) all in
      let within : k < length parts = omega
      (arith, (segment_named (row_counts parts) (k, d) tests.0), length-map parts (λ p. p.row_count)) in
      let part = part-at parts k within in
      let column = text-at columns k (omega (arith, within, long)) in
      let here = text-cells slot picked part.0 column.0 k d (whole_column_in slot part.0) i
      (slice_get-first picked i (k, d) ps e) (kept k part.0 column.0 part.1 column.1) in
      let own : picked_cells columns (k, d) ≡ row_of (texts_content column.0) d =
      ap (λ o. unwrap_or (option_map (λ (c : Texts). row_of (texts_content c) d) o) []) column.1 in
      let later : drop (i + 1) picked ≡ ps = sym (drop-drop 1 i picked) ∙ ap (λ qs. drop 1 qs) e in
      ap₂ (λ a b. a ∷ b) (own ∙ sym (cells-named slot parts k d part.0 part.1 ∙ here)) (text-rows ps (i + 1) long later tests.1)

  -- each segment has the cardinality of its shape
  text-cards : (k : ℕ) (ps : List Part) (cs : List Texts) → drop k parts ≡ ps → drop k columns ≡ cs
      → length cs ≡ length ps
      → map (segment_cardinality slot picked) (enumerate_from k ps) ≡ map cardinality_in (shapes_of cs)
  text-cards k [] [] e f long = refl
  text-cards k [] (c ∷ cs) e f long = absurd (omega (arith, long))
  text-cards k (p ∷ ps) [] e f long = absurd (omega (arith, long))
  text-cards k (p ∷ ps) (c ∷ cs) e f long =
      let later : drop (k + 1) parts ≡ ps = sym (drop-drop 1 k parts) ∙ ap (λ qs. drop 1 qs) e in
      let rest : drop (k + 1) columns ≡ cs = sym (drop-drop 1 k columns) ∙ ap (λ qs. drop 1 qs) f in
      ap₂ (λ a b. a ∷ b) (go (kept_column slot picked (k, p))
      (kept k p c (slice_get-first parts k p ps e) (slice_get-first columns k c cs f)))
      (text-cards (k + 1) ps cs later rest (omega (arith, long)))
    where
      go : (o : Option Column) → IsTextsKeptAs p.row_count o c
          → unwrap_or (option_map (λ b. b.content.cardinality) o)
          (cond (p.row_count == 0) tables.full tables.optional) ≡ cardinality_in c.ords.shape
      go None is = sym (ap cardinality_in is.0)
      go (Some b) is = ap (λ (content : Content). content.cardinality) is

  -- the terms of the kept columns are those of all
  text-terms : (k : ℕ) (ps : List Part) (cs : List Texts) → drop k parts ≡ ps → drop k columns ≡ cs
      → length cs ≡ length ps
      → joined_lists (map (λ b. b.content.terms) (filter_map (kept_column slot picked) (enumerate_from k ps)))
      ≡ joined_lists (terms_of cs)
  text-terms k [] [] e f long = refl
  text-terms k [] (c ∷ cs) e f long = absurd (omega (arith, long))
  text-terms k (p ∷ ps) [] e f long = absurd (omega (arith, long))
  text-terms k (p ∷ ps) (c ∷ cs) e f long =
      let later : drop (k + 1) parts ≡ ps = sym (drop-drop 1 k parts) ∙ ap (λ qs. drop 1 qs) e in
      let rest : drop (k + 1) columns ≡ cs = sym (drop-drop 1 k columns) ∙ ap (λ qs. drop 1 qs) f in
      go (kept_column slot picked (k, p))
      (kept k p c (slice_get-first parts k p ps e) (slice_get-first columns k c cs f))
      (text-terms (k + 1) ps cs later rest (omega (arith, long)))
    where
      behind : List Column
      behind = filter_map (kept_column slot picked) (enumerate_from (k + 1) ps)

      go : (o : Option Column) → IsTextsKeptAs p.row_count o c
          → joined_lists (map (λ b. b.content.terms) behind) ≡ joined_lists (terms_of cs)
          → joined_lists (map (λ b. b.content.terms) (cons_option o behind)) ≡ joined_lists (terms_of (c ∷ cs))
      go None is more = more ∙ ap (λ ts. ts ++ joined_lists (terms_of cs)) (sym is.1)
      go (Some b) is more = ap₂ (λ xs ys. xs ++ ys) (ap (λ (content : Content). content.terms) is) more

-- ---- the joined column

-- merged texts of what the parts keep have the content that the definition joins
pub merged-joined : MergedContentIsJoined
merged-joined slot parts columns (stack counts) fit told all same kept =
    let picked = all_rows counts in
    let long : length columns ≡ length parts =
    sym (length-map columns (λ (c : Texts). num_docs_in num_values_of c.ords)) ∙ ap length fit ∙ ap length same
    ∙ length-map parts (λ p. p.row_count) in
    let named = ap (λ cs. list_all (has_row cs) picked) (sym same) ∙ picks-there (stack counts) all in
    let rows = text-rows slot parts columns picked kept picked 0 long refl named in
    let card = ap (fold greater_cardinality tables.full) (sym (text-cards slot parts columns picked kept 0 parts columns refl refl long)) in
    let terms = ap (distinct_items (slice_cmp nat_cmp)) (sym (text-terms slot parts columns picked kept 0 parts columns refl refl long)) in
    λ i. record { cardinality = card i; terms = terms i; rows = rows i }
merged-joined slot parts columns (shuffle counts addresses) fit told all same kept =
    let long : length columns ≡ length parts =
    sym (length-map columns (λ (c : Texts). num_docs_in num_values_of c.ords)) ∙ ap length fit ∙ ap length same
    ∙ length-map parts (λ p. p.row_count) in
    let named = ap (λ cs. list_all (has_row cs) addresses) (sym same) ∙ picks-there (shuffle counts addresses) all in
    let rows = text-rows slot parts columns addresses kept addresses 0 long refl named in
    let lengths = texts-lengths columns (shuffle counts addresses) fit told all in
    let card = ap tightest_of (sym lengths) ∙ sym (tightest-counts (map (picked_cells columns) addresses)) ∙ ap tightest rows in
    let terms = ap (λ cs. texts_of (joined_lists cs)) rows in
    λ i. record { cardinality = card i; terms = terms i; rows = rows i }
