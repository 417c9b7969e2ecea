-- What stands in a joined column of terms is what the definition of merged tables joins.
use Rattle.std.proofs.Common.{◌≡◌, inr, ℕ, zero, suc, ◌+◌, ◌<◌, ◌==◌, ◌&&◌, nat_lt, Bool, true, false, cond, List, [], ◌∷◌, ◌++◌, length, map, drop, get_or, slice_get, unwrap_or, option_map, Option, Some, None, Result, refl, sym, ap, ap₂, ◌∙◌, subst, arith}
use Rattle.std.specs.Prelude.{option_and_then, filter_map}
use Rattle.std.specs.List.{list_all, list_any, enumerate_from, cons_option, fold, AllByRecursion}
use Rattle.std.specs.Ordering.{nat_cmp}
use Rattle.std.specs.Cmp.Lexicographic.{slice_cmp}
use Rattle.std.proofs.lemmas.Bool.{and_parts, eq-eqb}
use Rattle.std.proofs.lemmas.List.{drop-drop, length-map}
use Rattle.std.proofs.lemmas.Option.{none-some}
use Rattle.col_common.specs.Outside.{SeenSink}
use Rattle.col_common.specs.Reading.{only_if}
use Rattle.col_common.specs.declared.error.ColumnarError.{ColumnarError}
use Rattle.col_model.specs.Category.{Slot}
use Rattle.col_model.specs.Column.{term_cell}
use Rattle.col_model.specs.ColumnType.{ColumnType, has_terms}
use Rattle.col_model.specs.File.{Part}
use Rattle.col_model.specs.Index.{empty_shape}
use Rattle.col_model.specs.Limits.{tightest}
use Rattle.col_model.specs.Lookup.{row_of}
use Rattle.col_model.specs.Merge.{cells_in, whole_column_in, kept_column, segment_cardinality, greater_cardinality, row_counts}
use Rattle.col_model.specs.Order.{Order, stack, shuffle, has_row, picks, all_rows}
use Rattle.col_model.specs.Positions.{count_in, picked_counts}
use Rattle.col_model.specs.Sorted.{distinct_items}
use Rattle.col_model.specs.Table.{Cell, Cardinality, Column, Content}
use Rattle.col_model.specs.Table as tables
use Rattle.col_model.specs.U64List.{joined_lists}
use Rattle.col_model.specs.Written.{texts_of}
use Rattle.col_model.proofs.ListLaws.{no-items, item-at}
use Rattle.col_order.specs.Orders.{counts_of, picks_of}
use Rattle.col_numbers.specs.NumValues.{num_values_of}
use Rattle.col_index.specs.Offsets.{cardinality_in}
use Rattle.col_indexer.specs.Counted.{tightest_of}
use Rattle.col_indexer.proofs.TightestLemmas.{segment_named, tightest-counts}
use Rattle.col_column.proofs.RowLemmas.{row-empty}
use Rattle.col_column.specs.Columns.{rows_by, row_at, num_docs_in}
use Rattle.col_column.proofs.CellLemmas.{row-map}
use Rattle.col_text.specs.Texts.{Texts, texts_content}
use Rattle.col_dynamic.specs.declared.dynamic_column.DynamicColumn.{DynamicColumn}
use Rattle.col_merge_column.specs.Items.{terms_of}
use Rattle.col_merge_column.proofs.MergedRowLemmas.{picks-there, slice_get-first}
use Rattle.col_merge_column.specs.Merges.{FitsShape}
use Rattle.col_merge_column.specs.Joins.{JoinsColumn}
use Rattle.col_merge_column.specs.Merged.{shapes_of, picked_cells, merged_content}
use Rattle.col_merge_column.proofs.SlotLemmas.{any-none}
use Rattle.col_merge_slot.specs.JoinedSlots.{AreKept, IsJoinedContent, WritesSlot}
use Rattle.col_merge_slot.specs.Segments.{column_seen}
use Rattle.col_merge_slot.specs.Texts.{text_type, IsTextAs, IsCountedText, AreSegmentTexts}
use Rattle.col_merge_slot.proofs.JoinedLemmas.{row-count-at}
use Rattle.col_merge_slot.proofs.PartLemmas.{row-count, row-within}

-- ---- a column that holds nothing in picked rows

-- a column of terms without a value
no-rows : (n : ℕ) (x : Texts) (d : ℕ) → x.ords.shape ≡ empty_shape n → row_of (texts_content x) d ≡ []
unfolding rows_by
no-rows n x d e =
    row-map (term_cell x.terms) (rows_by x.ords.shape (num_values_of x.ords.values)) d
    ∙ ap (λ s. map (term_cell x.terms) (row_at (rows_by s (num_values_of x.ords.values)) d)) e
    ∙ ap (map (term_cell x.terms)) (row-empty n (num_values_of x.ords.values) d)

-- ---- the cells of a picked row

module _ (slot : Slot) (picked : List (ℕ × ℕ)) (n k d : ℕ) (x : Texts) where
  abbrev keep : Column → Option Column
  keep c = only_if (list_any (λ q. (q.0 == k) && nat_lt 0 (length (row_of c.content q.1))) picked) c

  -- the cells of a row of the segment
  abbrev cells-of : Option Column → List Cell
  cells-of o = unwrap_or (option_map (λ c. row_of c.content d) o) []

  empty-row : (c : Column) (i : ℕ) → slice_get picked i ≡ Some (k, d)
      → list_any (λ q. (q.0 == k) && nat_lt 0 (length (row_of c.content q.1))) picked ≡ false
      → row_of c.content d ≡ []
  empty-row c i at h =
      let none = any-none (λ (q : ℕ × ℕ). (q.0 == k) && nat_lt 0 (length (row_of c.content q.1))) picked i (k, d) at h in
      no-items (row_of c.content d) (ap (λ b. b && nat_lt 0 (length (row_of c.content d))) (sym (eq-eqb k k refl)) ∙ none)

  -- the text column of what is kept
  seen-cells : (o : Option DynamicColumn) → IsTextAs n o x → cells-of (option_map (column_seen slot.name) o) ≡ row_of (texts_content x) d
  seen-cells None is = sym (no-rows n x d is.1)
  seen-cells (Some c) is = ap (λ (content : Content). row_of content d) is

  kept-cells : (o : Option Column) (i : ℕ) → slice_get picked i ≡ Some (k, d) → cells-of o ≡ cells-of (option_and_then keep o)
  kept-cells None i at = refl
  kept-cells (Some c) i at = go (list_any (λ q. (q.0 == k) && nat_lt 0 (length (row_of c.content q.1))) picked) refl
    where
      go : (b : Bool) → list_any (λ q. (q.0 == k) && nat_lt 0 (length (row_of c.content q.1))) picked ≡ b
          → row_of c.content d ≡ cells-of (only_if b c)
      go true e = refl
      go false e = empty-row c i at e

-- ---- segments

module _ (slot : Slot) (parts : List Part) (texts : List Texts) (kept : List (Option DynamicColumn))
    (picked : List (ℕ × ℕ)) (is : AreKept slot picked parts kept) (long : length texts ≡ length parts)
    (each : (k : ℕ) (x : Texts) → slice_get texts k ≡ Some x → IsTextAs (get_or (row_counts parts) k 0)
    (get_or kept k None) x) where
  cells-named : (k d : ℕ) (p : Part) → slice_get parts k ≡ Some p
      → cells_in slot parts (k, d) ≡ unwrap_or (option_map (λ c. row_of c.content d) (whole_column_in slot p)) []
  cells-named k d p e = ap (λ o. unwrap_or (option_map (λ c. row_of c.content d) (option_and_then (whole_column_in slot) o)) []) e

  -- each picked row has the cells of its segment
  rows-kept : (ps : List (ℕ × ℕ)) (i : ℕ) → drop i picked ≡ ps → list_all (has_row (row_counts parts)) ps ≡ true
      → map (picked_cells texts) ps ≡ map (cells_in slot parts) ps
  rows-kept [] i e all = refl
  rows-kept ((k, d) ∷ ps) i e all =
      let of = and_parts (has_row (row_counts parts) (k, d)) (list_all (has_row (row_counts parts)) ps) all in
      let within : k < length parts = omega
      (arith, segment_named (row_counts parts) (k, d) of.0, length-map parts (λ (p : Part). p.row_count)) in
      let part = item-at parts k within in
      let text = item-at texts k (omega (arith, within, long)) in
      let here =
      cells-named k d part.0 part.1
      ∙ kept-cells slot picked (get_or (row_counts parts) k 0) k d text.0 (whole_column_in slot part.0) i
      (slice_get-first picked i (k, d) ps e)
      ∙ ap (λ o. unwrap_or (option_map (λ c. row_of c.content d) o) []) (is.each k part.0 part.1)
      ∙ seen-cells slot picked (get_or (row_counts parts) k 0) k d text.0 (get_or kept k None) (each k text.0 text.1) in
      let later : drop (i + 1) picked ≡ ps = sym (drop-drop 1 i picked) ∙ ap (λ qs. drop 1 qs) e in
      ap₂ (λ a b. a ∷ b) (ap (λ o. unwrap_or (option_map (λ c. row_of (texts_content c) d) o) []) text.1 ∙ sym here)
      (rows-kept ps (i + 1) later of.1)

  -- each segment has the cardinality of its index
  cards-kept : (k : ℕ) (ps : List Part) (xs : List Texts) → drop k parts ≡ ps → drop k texts ≡ xs
      → length xs ≡ length ps
      → map (segment_cardinality slot picked) (enumerate_from k ps) ≡ map cardinality_in (shapes_of xs)
  cards-kept k [] [] e f same = refl
  cards-kept k [] (x ∷ xs) e f same = absurd (omega (arith, same))
  cards-kept k (p ∷ ps) [] e f same = absurd (omega (arith, same))
  cards-kept k (p ∷ ps) (x ∷ xs) e f same =
      let at : slice_get parts k ≡ Some p = slice_get-first parts k p ps e in
      let text : slice_get texts k ≡ Some x = slice_get-first texts k x xs f in
      let later : drop (k + 1) parts ≡ ps = sym (drop-drop 1 k parts) ∙ ap (λ qs. drop 1 qs) e in
      let behind : drop (k + 1) texts ≡ xs = sym (drop-drop 1 k texts) ∙ ap (λ qs. drop 1 qs) f in
      ap₂ (λ a b. a ∷ b)
      (ap (λ o. unwrap_or (option_map (λ c. c.content.cardinality) o) (cond (p.row_count == 0) tables.full
      tables.optional)) (is.each k p at)
      ∙ go (get_or kept k None) (each k x text) (row-count-at parts k p at))
      (cards-kept (k + 1) ps xs later behind (omega (arith, same)))
    where
      go : (o : Option DynamicColumn) → IsTextAs (get_or (row_counts parts) k 0) o x
          → get_or (row_counts parts) k 0 ≡ p.row_count
          → unwrap_or (option_map (λ (c : Column). c.content.cardinality) (option_map (column_seen slot.name) o))
          (cond (p.row_count == 0) tables.full tables.optional) ≡ cardinality_in x.ords.shape
      go None it n = ap (λ n. cond (n == 0) tables.full tables.optional) (sym n) ∙ sym (ap cardinality_in it.1)
      go (Some c) it n = ap (λ (content : Content). content.cardinality) it

  -- each kept column has the terms of its segment, and no other segment has one
  terms-kept : (k : ℕ) (ps : List Part) (xs : List Texts) → drop k parts ≡ ps → drop k texts ≡ xs
      → length xs ≡ length ps
      → joined_lists (map (λ d. d.content.terms) (filter_map (kept_column slot picked) (enumerate_from k ps)))
      ≡ joined_lists (terms_of xs)
  terms-kept k [] [] e f same = refl
  terms-kept k [] (x ∷ xs) e f same = absurd (omega (arith, same))
  terms-kept k (p ∷ ps) [] e f same = absurd (omega (arith, same))
  terms-kept k (p ∷ ps) (x ∷ xs) e f same =
      let at : slice_get parts k ≡ Some p = slice_get-first parts k p ps e in
      let text : slice_get texts k ≡ Some x = slice_get-first texts k x xs f in
      let later : drop (k + 1) parts ≡ ps = sym (drop-drop 1 k parts) ∙ ap (λ qs. drop 1 qs) e in
      let behind : drop (k + 1) texts ≡ xs = sym (drop-drop 1 k texts) ∙ ap (λ qs. drop 1 qs) f in
      ap (λ o. joined_lists (map (λ d. d.content.terms)
      (cons_option o (filter_map (kept_column slot picked) (enumerate_from (k + 1) ps))))) (is.each k p at)
      ∙ go (get_or kept k None) (each k x text) (terms-kept (k + 1) ps xs later behind (omega (arith, same)))
    where
      go : (o : Option DynamicColumn) → IsTextAs (get_or (row_counts parts) k 0) o x
          → joined_lists
          (map (λ d. d.content.terms) (filter_map (kept_column slot picked) (enumerate_from (k + 1) ps)))
          ≡ joined_lists (terms_of xs)
          → joined_lists (map (λ d. d.content.terms) (cons_option (option_map (column_seen slot.name) o)
          (filter_map (kept_column slot picked) (enumerate_from (k + 1) ps)))) ≡ joined_lists (terms_of (x ∷ xs))
      go None it more = more ∙ ap (λ ts. ts ++ joined_lists (terms_of xs)) (sym it.0)
      go (Some c) it more = ap₂ (λ a b. a ++ b) (ap (λ (content : Content). content.terms) it) more

-- ---- the joined column

-- a segment's columns of terms, as an index with ordinals
text-column : (counts : List ℕ) (texts : List Texts) (k : ℕ) (x : Texts)
    → map (λ c. num_docs_in num_values_of c.ords) texts ≡ counts → AllByRecursion IsCountedText texts
    → slice_get texts k ≡ Some x → FitsShape (get_or counts k 0) x.ords.shape (num_values_of x.ords.values)
text-column counts [] zero x fit all e = absurd (none-some x e)
text-column counts [] (suc k) x fit all e = absurd (none-some x e)
text-column counts (y ∷ texts) zero x fit all e =
    let same : y ≡ x = ap (λ o. unwrap_or o y) e in
    subst (λ z. FitsShape (get_or counts 0 0) z.ords.shape (num_values_of z.ords.values)) same
    (record { rows = ap (λ ns. get_or ns 0 0) fit; counted = all.0 })
text-column [] (y ∷ texts) (suc k) x fit all e = absurd (omega (arith, ap length fit))
text-column (n ∷ counts) (y ∷ texts) (suc k) x fit all e = text-column counts texts k x (ap (drop 1) fit) all.1 e

shape-at : (texts : List Texts) (k : ℕ) (x : Texts) → slice_get texts k ≡ Some x → get_or (shapes_of texts) k (empty_shape 0) ≡ x.ords.shape
shape-at [] zero x e = absurd (none-some x e)
shape-at [] (suc k) x e = absurd (none-some x e)
shape-at (y ∷ texts) zero x e = ap (λ o. (unwrap_or o y).ords.shape) e
shape-at (y ∷ texts) (suc k) x e = shape-at texts k x e

-- picked rows have as many cells as are counted
pub text-lengths : (counts : List ℕ) (texts : List Texts) → map (λ c. num_docs_in num_values_of c.ords) texts ≡ counts
    → AllByRecursion IsCountedText texts → (ps : List (ℕ × ℕ)) → list_all (has_row counts) ps ≡ true
    → map length (map (picked_cells texts) ps) ≡ picked_counts (shapes_of texts) ps
unfolding picked_counts
text-lengths counts texts fit all [] named = refl
text-lengths counts texts fit all ((k, d) ∷ ps) named =
    let of = and_parts (has_row counts (k, d)) (list_all (has_row counts) ps) named in
    let within : k < length texts = omega (
      arith,
      segment_named counts (k, d) of.0,
      ap length fit,
      length-map texts (λ (c : Texts). num_docs_in num_values_of c.ords),
    ) in
    let text = item-at texts k within in
    let x = text.0 in
    ap₂ (λ a b. a ∷ b)
    (ap (λ o. length (unwrap_or (option_map (λ c. row_of (texts_content c) d) o) [])) text.1
    ∙ row-count (term_cell x.terms) x.terms (get_or counts k 0) x.ords.shape (num_values_of x.ords.values) d
    (text-column counts texts k x fit all text.1) (row-within counts (k, d) of.0)
    ∙ ap (λ s. count_in s d) (sym (shape-at texts k x text.1)))
    (text-lengths counts texts fit all ps of.1)

-- what stands in it is what the definition joins
pub texts-joined : (t : ColumnType) (order : Order) (kept : List (Option DynamicColumn)) (texts : List Texts)
    → picks order (counts_of order) ≡ Some (picks_of order) → AllByRecursion IsCountedText texts
    → AreSegmentTexts t (counts_of order) kept texts → IsJoinedContent order kept (merged_content texts order)
texts-joined t (stack counts) kept texts ordered all are slot parts same is =
    let long : length texts ≡ length parts = sym (length-map texts (λ (c : Texts). num_docs_in num_values_of c.ords))
    ∙ ap length are.fit ∙ ap length (sym same) ∙ length-map parts (λ (p : Part). p.row_count) in
    let each : (k : ℕ) (x : Texts) → slice_get texts k ≡ Some x → IsTextAs (get_or (row_counts parts) k 0)
    (get_or kept k None) x = λ k x e. subst (λ ns. IsTextAs (get_or ns k 0) (get_or kept k None) x) (sym same)
    (are.each k x e) in
    let picked = all_rows counts in
    let named = subst (λ ns. list_all (has_row ns) picked ≡ true) (sym same) (picks-there (stack counts) ordered) in
    let rows = rows-kept slot parts texts kept picked is long each picked 0 refl named in
    let card = ap (fold greater_cardinality tables.full)
    (sym (cards-kept slot parts texts kept picked is long each 0 parts texts refl refl long)) in
    let terms = ap (distinct_items (slice_cmp nat_cmp))
    (sym (terms-kept slot parts texts kept picked is long each 0 parts texts refl refl long)) in
    λ i. record { cardinality = card i; terms = terms i; rows = rows i }
texts-joined t (shuffle counts addresses) kept texts ordered all are slot parts same is =
    let long : length texts ≡ length parts = sym (length-map texts (λ (c : Texts). num_docs_in num_values_of c.ords))
    ∙ ap length are.fit ∙ ap length (sym same) ∙ length-map parts (λ (p : Part). p.row_count) in
    let each : (k : ℕ) (x : Texts) → slice_get texts k ≡ Some x → IsTextAs (get_or (row_counts parts) k 0)
    (get_or kept k None) x = λ k x e. subst (λ ns. IsTextAs (get_or ns k 0) (get_or kept k None) x) (sym same)
    (are.each k x e) in
    let there = picks-there (shuffle counts addresses) ordered in
    let named = subst (λ ns. list_all (has_row ns) addresses ≡ true) (sym same) there in
    let rows = rows-kept slot parts texts kept addresses is long each addresses 0 refl named in
    let lengths = text-lengths counts texts are.fit all addresses there in
    let card = ap tightest_of (sym lengths) ∙ sym (tightest-counts (map (picked_cells texts) addresses)) ∙ ap tightest rows in
    let terms = ap (λ rs. texts_of (joined_lists rs)) rows in
    λ i. record { cardinality = card i; terms = terms i; rows = rows i }

-- ---- the call

-- both types of texts have terms
pub text-terms : (b : Bool) → has_terms (text_type b) ≡ true
text-terms true = refl
text-terms false = refl

-- a column of terms that was written
pub texts-written : (t : ColumnType) (order : Order) (kept : List (Option DynamicColumn))
    (texts others : List Texts) (old new : SeenSink) (result : Result (Unit {0}) ColumnarError) → others ≡ texts
    → picks order (counts_of order) ≡ Some (picks_of order) → AllByRecursion IsCountedText texts
    → AreSegmentTexts t (counts_of order) kept texts
    → JoinsColumn old new result t (length (picks_of order)) (merged_content others order)
    → WritesSlot order kept t old new result
texts-written t order kept texts others old new result same ordered all are joins = inr (inr (
  are.read,
  record {
    content = merged_content texts order;
    is = texts-joined t order kept texts ordered all are;
    joins = subst (λ xs. JoinsColumn old new result t (length (picks_of order)) (merged_content xs order)) same joins;
  },
))
