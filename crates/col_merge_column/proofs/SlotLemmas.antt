-- What stands in a joined column is what the definition of merged tables joins.
use Rattle.std.proofs.Common.{◌≡◌, ℕ, zero, suc, ◌+◌, ◌<◌, ◌==◌, ◌&&◌, nat_lt, Bool, true, false, cond, List, [], ◌∷◌, ◌++◌, length, map, drop, get_or, slice_get, unwrap_or, option_map, Option, Some, None, refl, sym, ap, ap₂, ◌∙◌, arith}
use Rattle.std.specs.List.{list_all, list_any, enumerate_from, filter_map, cons_option, fold}
use Rattle.std.specs.Prelude.{option_and_then}
use Rattle.std.proofs.lemmas.Bool.{and_parts, eq-eqb, or_parts}
use Rattle.std.proofs.lemmas.List.{drop-drop, get_or-drop, length-map, map-append}
use Rattle.std.proofs.lemmas.Option.{none-some}
use Rattle.col_common.specs.Reading.{only_if}
use Rattle.col_model.proofs.MergedSound.{distinct-none}
use Rattle.col_model.specs.Category.{Slot}
use Rattle.col_model.specs.File.{Part}
use Rattle.col_model.specs.Index.{Shape, empty_shape}
use Rattle.col_model.specs.Limits.{tightest}
use Rattle.col_model.specs.Lookup.{row_of}
use Rattle.col_model.specs.Merge.{cells_in, whole_column_in, kept_column, kept_columns, segment_cardinality, greater_cardinality, joined_content, row_counts}
use Rattle.col_model.specs.Order.{Order, stack, shuffle, has_row, all_rows, picks}
use Rattle.col_model.specs.Table.{Cell, Cardinality, Column, Content}
use Rattle.col_model.specs.Table as tables
use Rattle.col_model.specs.U64List.{joined_lists}
use Rattle.col_model.specs.Written.{text_of}
use Rattle.col_model.proofs.ListLaws.{no-items}
use Rattle.col_order.specs.Orders.{counts_of, picks_of}
use Rattle.col_index.specs.Offsets.{cardinality_in}
use Rattle.col_indexer.specs.Counted.{tightest_of}
use Rattle.col_indexer.proofs.TightestLemmas.{segment_named, tightest-counts}
use Rattle.col_column.proofs.RowLemmas.{row-empty}
use Rattle.col_column.specs.Columns.{rows_by, row_at}
use Rattle.col_column.proofs.CellLemmas.{row-map}
use Rattle.col_merge_values.proofs.MergedRowLemmas.{picked-lengths, picks-there, slice_get-first}
use Rattle.col_merge_values.specs.Merges.{SegmentColumns, segment_shape, segment_values, merged_rows, merge_of, AreColumns}
use Rattle.col_model.proofs.CutLaws.{lengths-map}
use Rattle.col_merge_column.specs.Joins.{picked_content}
use Rattle.col_merge_column.specs.Slots.{AreNoTexts, IsKeptAs, AreKeptAs, PickedContentIsJoined}

-- ---- the cells of a picked row

-- a test that no item passes, at one of them
pub any-none : {A : Type 0} (test : A → Bool) (xs : List A) (i : ℕ) (x : A) → slice_get xs i ≡ Some x
    → list_any test xs ≡ false → test x ≡ false
any-none test [] zero x e h = absurd (none-some x e)
any-none test [] (suc i) x e h = absurd (none-some x e)
any-none test (y ∷ ys) zero x e h = ap test (sym (ap (λ o. unwrap_or o x) e)) ∙ (or_parts (test y) (list_any test ys) h).0
any-none test (y ∷ ys) (suc i) x e h = any-none test ys i x e (or_parts (test y) (list_any test ys) h).1

module _ {T : Type 0} (cell : T → Cell) (slot : Slot) (picked : List (ℕ × ℕ)) (part : Part) (s : Shape) (xs : List T) (k d : ℕ) where
  -- the cells of a row of the part
  abbrev cells-of : Option Column → List Cell
  cells-of o = unwrap_or (option_map (λ c. row_of c.content d) o) []

  -- a picked row of a column that holds no cell in picked rows is empty
  pub empty-row : (c : Column) (i : ℕ) → slice_get picked i ≡ Some (k, d)
      → list_any (λ q. (q.0 == k) && nat_lt 0 (length (row_of c.content q.1))) picked ≡ false
      → row_of c.content d ≡ []
  empty-row c i at h =
      let none = any-none (λ (q : ℕ × ℕ). (q.0 == k) && nat_lt 0 (length (row_of c.content q.1))) picked i (k, d) at h in
      no-items (row_of c.content d) (ap (λ b. b && nat_lt 0 (length (row_of c.content d))) (sym (eq-eqb k k refl)) ∙ none)

  kept-cells : (o : Option Column) (i : ℕ) → slice_get picked i ≡ Some (k, d)
      → IsKeptAs cell part.row_count (option_and_then
      (λ c. only_if (list_any (λ q. (q.0 == k) && nat_lt 0 (length (row_of c.content q.1))) picked) c) o) s xs
      → cells-of o ≡ map cell (row_at (rows_by s xs) d)
  unfolding rows_by
  kept-cells None i at is = rw is (sym (ap (map cell) (row-empty part.row_count xs d)))
  kept-cells (Some c) i at is = go (list_any (λ q. (q.0 == k) && nat_lt 0 (length (row_of c.content q.1))) picked) refl is
    where
      go : (b : Bool) → list_any (λ q. (q.0 == k) && nat_lt 0 (length (row_of c.content q.1))) picked ≡ b
          → IsKeptAs cell part.row_count (only_if b c) s xs
          → row_of c.content d ≡ map cell (row_at (rows_by s xs) d)
      go true e is = ap (λ (content : Content). row_of content d) is ∙ row-map cell (rows_by s xs) d
      go false e is = empty-row c i at e ∙ rw is (sym (ap (map cell) (row-empty part.row_count xs d)))

-- ---- segments

-- the part that a pick names
pub part-at : (parts : List Part) (k : ℕ) → k < length parts → (p : Part) × (slice_get parts k ≡ Some p)
part-at [] k h = absurd (omega arith)
part-at (p ∷ parts) zero h = (p, refl)
part-at (p ∷ parts) (suc k) h = part-at parts k (omega arith)

-- cells of a named part
pub cells-named : (slot : Slot) (parts : List Part) (k d : ℕ) (part : Part) → slice_get parts k ≡ Some part
    → cells_in slot parts (k, d) ≡ unwrap_or (option_map (λ c. row_of c.content d) (whole_column_in slot part)) []
cells-named slot parts k d part e =
    ap (λ o. unwrap_or (option_map (λ c. row_of c.content d) (option_and_then (whole_column_in slot) o)) []) e

module _ {T : Type 0} (cell : T → Cell) (slot : Slot) (parts : List Part) (c : SegmentColumns T) (picked : List (ℕ × ℕ))
    (kept : AreKeptAs cell slot picked parts c) where
  -- each picked row has the cells of its segment
  rows-kept : (ps : List (ℕ × ℕ)) (i : ℕ) → drop i picked ≡ ps → list_all (has_row (row_counts parts)) ps ≡ true
      → map (map cell) (merged_rows c ps) ≡ map (cells_in slot parts) ps
  rows-kept [] i e all = refl
  rows-kept ((k, d) ∷ ps) i e all =
      let parts-of = and_parts (has_row (row_counts parts) (k, d)) (list_all (has_row (row_counts parts)) ps) all in
      let within : k < length parts = omega
      (arith, (segment_named (row_counts parts) (k, d) parts-of.0), length-map parts (λ p. p.row_count)) in
      let named = part-at parts k within in
      let here = kept-cells cell slot picked named.0 (segment_shape c k) (segment_values c k) k d
      (whole_column_in slot named.0) i (slice_get-first picked i (k, d) ps e) (kept k named.0 named.1) in
      let later : drop (i + 1) picked ≡ ps = sym (drop-drop 1 i picked) ∙ ap (λ qs. drop 1 qs) e in
      ap₂ (λ a b. a ∷ b) (sym (cells-named slot parts k d named.0 named.1 ∙ here)) (rows-kept ps (i + 1) later parts-of.1)

  -- each segment has the cardinality of its shape
  cards-kept : (k : ℕ) (ps : List Part) (ss : List Shape) → drop k parts ≡ ps → drop k c.shapes ≡ ss
      → length ss ≡ length ps → map (segment_cardinality slot picked) (enumerate_from k ps) ≡ map cardinality_in ss
  cards-kept k [] [] e f long = refl
  cards-kept k [] (s ∷ ss) e f long = absurd (omega (arith, long))
  cards-kept k (p ∷ ps) [] e f long = absurd (omega (arith, long))
  cards-kept k (p ∷ ps) (s ∷ ss) e f long =
      let at : slice_get parts k ≡ Some p = slice_get-first parts k p ps e in
      let shape : segment_shape c k ≡ s = ap (λ i. get_or c.shapes i (empty_shape 0)) (omega arith)
      ∙ sym (get_or-drop k c.shapes 0 (empty_shape 0)) ∙ ap (λ xs. get_or xs 0 (empty_shape 0)) f in
      let later : drop (k + 1) parts ≡ ps = sym (drop-drop 1 k parts) ∙ ap (λ qs. drop 1 qs) e in
      let shapes : drop (k + 1) c.shapes ≡ ss = sym (drop-drop 1 k c.shapes) ∙ ap (λ qs. drop 1 qs) f in
      ap₂ (λ a b. a ∷ b) (go (kept_column slot picked (k, p)) (kept k p at) ∙ ap cardinality_in shape)
      (cards-kept (k + 1) ps ss later shapes (omega (arith, long)))
    where
      go : (o : Option Column) → IsKeptAs cell p.row_count o (segment_shape c k) (segment_values c k)
          → unwrap_or (option_map (λ d. d.content.cardinality) o)
          (cond (p.row_count == 0) tables.full tables.optional) ≡ cardinality_in (segment_shape c k)
      go None is = sym (ap cardinality_in is)
      go (Some d) is = ap (λ (content : Content). content.cardinality) is

  -- no kept column has terms
  terms-kept : (k : ℕ) (ps : List Part) → drop k parts ≡ ps
      → joined_lists (map (λ d. d.content.terms) (filter_map (kept_column slot picked) (enumerate_from k ps))) ≡ []
  terms-kept k [] e = refl
  terms-kept k (p ∷ ps) e =
      let at : slice_get parts k ≡ Some p = slice_get-first parts k p ps e in
      let later : drop (k + 1) parts ≡ ps = sym (drop-drop 1 k parts) ∙ ap (λ qs. drop 1 qs) e in
      go (kept_column slot picked (k, p)) (kept k p at) (terms-kept (k + 1) ps later)
    where
      rest : List Column
      rest = filter_map (kept_column slot picked) (enumerate_from (k + 1) ps)

      go : (o : Option Column) → IsKeptAs cell p.row_count o (segment_shape c k) (segment_values c k)
          → joined_lists (map (λ d. d.content.terms) rest) ≡ []
          → joined_lists (map (λ d. d.content.terms) (cons_option o rest)) ≡ []
      go None is none = none
      go (Some d) is none = ap₂ (λ a b. a ++ b) (ap (λ (content : Content). content.terms) is) none

-- ---- rows of numbers

-- they have no texts
no-texts : {T : Type 0} (cell : T → Cell) → AreNoTexts cell → (xs : List T) → filter_map text_of (map cell xs) ≡ []
no-texts cell numbers [] = refl
no-texts cell numbers (x ∷ xs) = ap (λ o. cons_option o (filter_map text_of (map cell xs))) (numbers x) ∙ no-texts cell numbers xs

map-joined : {A B : Type 0} (f : A → B) (xss : List (List A)) → joined_lists (map (map f) xss) ≡ map f (joined_lists xss)
map-joined f [] = refl
map-joined f (xs ∷ xss) = ap (λ ys. map f xs ++ ys) (map-joined f xss) ∙ sym (map-append f xs (joined_lists xss))

-- ---- the joined column

module _ {T : Type 0} (cell : T → Cell) (slot : Slot) (parts : List Part) (c : SegmentColumns T) (numbers : AreNoTexts cell) where
  -- each picked row is one of its part
  named-rows : (order : Order) → picks order (counts_of order) ≡ Some (picks_of order)
      → counts_of order ≡ row_counts parts → list_all (has_row (row_counts parts)) (picks_of order) ≡ true
  named-rows order ordered same = ap (λ counts. list_all (has_row counts) (picks_of order)) (sym same) ∙ picks-there order ordered

  joined-by : (order : Order) → AreColumns (counts_of order) c
      → picks order (counts_of order) ≡ Some (picks_of order) → counts_of order ≡ row_counts parts
      → AreKeptAs cell slot (picks_of order) parts c
      → picked_content cell (merge_of c order)
      ≡ joined_content order slot (picks_of order) parts (kept_columns slot (picks_of order) parts)
  joined-by (stack counts) are ordered same kept =
      let picked = all_rows counts in
      let rows = rows-kept cell slot parts c picked kept picked 0 refl (named-rows (stack counts) ordered same) in
      let long : length c.shapes ≡ length parts = are.shapes ∙ ap length same ∙ length-map parts (λ p. p.row_count) in
      let card = ap (fold greater_cardinality tables.full)
      (sym (cards-kept cell slot parts c picked kept 0 parts c.shapes refl refl long)) in
      let terms = sym (distinct-none _ (terms-kept cell slot parts c picked kept 0 parts refl)) in
      λ i. record { cardinality = card i; terms = terms i; rows = rows i }
  joined-by (shuffle counts addresses) are ordered same kept =
      let rows = rows-kept cell slot parts c addresses kept addresses 0 refl (named-rows (shuffle counts addresses) ordered same) in
      let merged = merged_rows c addresses in
      let lengths = lengths-map cell merged ∙ picked-lengths c counts are addresses (picks-there (shuffle counts addresses) ordered) in
      let card = ap tightest_of (sym lengths) ∙ sym (tightest-counts (map (map cell) merged)) ∙ ap tightest rows in
      let none = ap (filter_map text_of) (ap joined_lists (sym rows) ∙ map-joined cell merged)
      ∙ no-texts cell numbers (joined_lists merged) in
      let terms = sym (distinct-none _ none) in
      λ i. record { cardinality = card i; terms = terms i; rows = rows i }

-- picked rows of what the parts keep have the content that the definition joins
pub picked-joined : (T : Type 0) → PickedContentIsJoined T
picked-joined T cell slot parts m numbers is ordered same kept = joined-by cell slot parts m.columns numbers m.order is ordered same kept
