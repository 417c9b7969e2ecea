-- How many different terms stand in a column, by marks.
use Rattle.std.proofs.Common.{◌≡◌, ℕ, suc, ◌+◌, ◌-◌, ◌<◌, ◌==◌, Bool, true, false, cond, not, ◌||◌, List, [], ◌∷◌, ◌++◌, map, take, drop, length, get_or, Some, None, refl, sym, ◌∙◌, ap, ap₂, arith}
use Rattle.std.specs.List.{count_by, range_with_len, list_any}
use Rattle.std.proofs.lemmas.Bool.{ne_eqb}
use Rattle.std.proofs.lemmas.List.{length-map}
use Rattle.std.proofs.lemmas.List.FromFn.{get_or-map-range_with_len, length-map-range_with_len}
use Rattle.std.proofs.lemmas.List.Sums.{sum_by-cons}
use Rattle.col_common.specs.Ascending.{AreBelow, is_ascending}
use Rattle.col_model.specs.Column.{term_cell}
use Rattle.col_model.specs.ColumnType.{ColumnType, has_terms}
use Rattle.col_model.specs.Facets.{cell_order}
use Rattle.col_model.specs.Sorted.{distinct_items}
use Rattle.col_model.specs.Table.{Cell}
use Rattle.col_column.specs.Columns.{IsCounted}
use Rattle.col_dynamic.specs.Dynamic.{type_of, content_of}
use Rattle.col_dynamic.specs.declared.dynamic_column.DynamicColumn.{DynamicColumn}
use Rattle.col_numbers.specs.NumValues.{num_values_of}
use Rattle.col_text.specs.Texts.{Texts, texts_content}
use Rattle.col_facet.specs.Cells.{cell_cmp}
use Rattle.col_facet.specs.Facets.{facets_of, facet_cell, copies}
use Rattle.col_facet.specs.Tables.{counted_from, term_at}
use Rattle.col_facet.specs.declared.facet_cell.FacetCell.{FacetCell}
use Rattle.col_facet.specs.declared.facet_cell.FacetCount.{FacetCount}
use Rattle.col_facet.proofs.CellLemmas.{cells-keep, distinct-map}
use Rattle.col_facet.proofs.DocLemmas.{take-next}
use Rattle.col_facet.proofs.FacetLemmas.{term-table}
use Rattle.col_look.specs.Described.{distinct_terms}
use Rattle.col_look.specs.Ends.{cells_of}
use Rattle.col_look.proofs.SeenLemmas.{facets-seen}

-- some item passes exactly where not none is counted
any-counted : (test : ℕ → Bool) (xs : List ℕ) → list_any test xs ≡ not (count_by test xs == 0)
any-counted test [] = refl
any-counted test (x ∷ xs) = go (test x) refl (any-counted test xs)
    ∙ ap (λ n. not (n == 0)) (sym (sum_by-cons (λ (y : ℕ). cond (test y) 1 0) x xs))
  where
    go : (b : Bool) → test x ≡ b → list_any test xs ≡ not (count_by test xs == 0)
        → (test x || list_any test xs) ≡ not (cond (test x) 1 0 + count_by test xs == 0)
    go true e later =
        let some : (1 + count_by test xs == 0) ≡ false = ne_eqb (1 + count_by test xs) 0 (λ z. omega (arith, z)) in
        ap (λ b. b || list_any test xs) e ∙ sym (ap not some)
        ∙ sym (ap (λ b. not (cond b 1 0 + count_by test xs == 0)) e)
    go false e later =
        let none : count_by test xs ≡ 0 + count_by test xs = omega arith in
        ap (λ b. b || list_any test xs) e ∙ later ∙ ap (λ n. not (n == 0)) none
        ∙ sym (ap (λ b. not (cond b 1 0 + count_by test xs == 0)) e)

-- some item of joined lists passes where one of either does
any-both : (test : ℕ → Bool) (xs ys : List ℕ) → list_any test (xs ++ ys) ≡ (list_any test xs || list_any test ys)
any-both test [] ys = refl
any-both test (x ∷ xs) ys = ap (λ b. test x || b) (any-both test xs ys) ∙ go (test x)
  where
    go : (b : Bool) → (b || (list_any test xs || list_any test ys)) ≡ ((b || list_any test xs) || list_any test ys)
    go true = refl
    go false = refl

-- a mark of the values so far, and of those of a block behind them
pub marked-next : (test : ℕ → Bool) (xs block : List ℕ) (at len : ℕ) (old new : Bool) → block ≡ take len (drop at xs)
    → old ≡ list_any test (take at xs) → new ≡ (old || list_any test block) → new ≡ list_any test (take (at + len) xs)
marked-next test xs block at len old new is told more =
    more ∙ ap₂ (λ a ys. a || list_any test ys) told is ∙ sym (any-both test (take at xs) (take len (drop at xs)))
    ∙ ap (λ n. list_any test (take at xs ++ take n (drop at xs))) width
    ∙ ap (list_any test) (take-next xs at (at + len) (omega arith))
  where
    width : len ≡ at + len - at
    width = omega arith

-- the cells of a table are those of places that count something
length-counted : (cell : ℕ → FacetCell) (at : ℕ) (ns : List ℕ) → length (counted_from cell at ns) ≡ count_by (λ n. not (n == 0)) ns
unfolding counted_from
length-counted cell at [] = refl
length-counted cell at (n ∷ ns) = go (n == 0) (length-counted cell (suc at) ns)
    ∙ sym (sum_by-cons (λ (m : ℕ). cond (not (m == 0)) 1 0) n ns)
  where
    go : (b : Bool) → length (counted_from cell (suc at) ns) ≡ count_by (λ m. not (m == 0)) ns
        → length (cond b (counted_from cell (suc at) ns) (record { cell = cell at; count = n } ∷ counted_from cell (suc at) ns))
        ≡ cond (not b) 1 0 + count_by (λ m. not (m == 0)) ns
    go true e = omega (arith, e)
    go false e = omega (arith, e)

-- marks that stand where something is counted are as many
marks-counted : (marks : List Bool) (ns : List ℕ) → length marks ≡ length ns
    → ((i : ℕ) → i < length marks → get_or marks i false ≡ not (get_or ns i 0 == 0))
    → count_by (λ m. m) marks ≡ count_by (λ n. not (n == 0)) ns
marks-counted [] [] size told = refl
marks-counted [] (n ∷ ns) size told = absurd (omega (arith, size))
marks-counted (m ∷ ms) [] size told = absurd (omega (arith, size))
marks-counted (m ∷ ms) (n ∷ ns) size told =
    sum_by-cons (λ (b : Bool). cond b 1 0) m ms
    ∙ ap₂ (λ b k. cond b 1 0 + k) (told 0 (omega arith))
    (marks-counted ms ns (omega (arith, size)) (λ i l. told (suc i) (omega (arith, l))))
    ∙ sym (sum_by-cons (λ (k : ℕ). cond (not (k == 0)) 1 0) n ns)

-- marks at the ordinals of values are as many as the facets of their terms
pub marks-facets : (terms : List (List ℕ)) (xs : List ℕ) (marks : List Bool) → is_ascending terms ≡ true
    → AreBelow (length terms) xs → length marks ≡ length terms
    → ((i : ℕ) → i < length marks → get_or marks i false ≡ list_any (λ n. n == i) xs)
    → count_by (λ m. m) marks ≡ length (facets_of (map (term_at terms) xs))
marks-facets terms xs marks up below size told =
    let times : ℕ → ℕ = λ i. count_by (λ n. n == 0 + i) xs in
    let counts = map times (range_with_len 0 (length terms)) in
    let long : length counts ≡ length terms = length-map-range_with_len times 0 (length terms) in
    let at : (i : ℕ) → i < length terms → get_or counts i 0 ≡ times i =
    λ i l. get_or-map-range_with_len times 0 (length terms) i i 0 l (omega arith) in
    marks-counted marks counts (size ∙ sym long) (λ i l. told i l ∙ any-counted (λ n. n == i) xs
    ∙ ap (λ k. not (count_by (λ n. n == k) xs == 0)) (from-zero i)
    ∙ sym (ap (λ k. not (k == 0)) (at i (omega (arith, l, size)))))
    ∙ sym (length-counted (term_at terms) 0 counts)
    ∙ ap length (term-table terms counts xs up long below at)
  where
    from-zero : (i : ℕ) → i ≡ 0 + i
    from-zero i = omega arith

-- there are as many facets as different cells
pub facets-distinct : (t : ColumnType) (cells : List Cell)
    → length (facets_of (map (facet_cell t) cells)) ≡ length (distinct_items cell_order cells)
unfolding facets_of
facets-distinct t cells =
    length-map (distinct_items cell_cmp (map (facet_cell t) cells))
    (λ c. let r : FacetCount = record { cell = c; count = copies (map (facet_cell t) cells) c } in r)
    ∙ ap length (distinct-map (facet_cell t) cell_order cell_cmp (cells-keep t) cells)
    ∙ length-map (distinct_items cell_order cells) (facet_cell t)

-- there are as many different cells in a column of terms as facets of its terms
pub distinct-of-terms : (n : ℕ) (t : ColumnType) (c d : DynamicColumn) (u v : Texts) → c ≡ d → type_of d ≡ t → has_terms t ≡ true
    → content_of d ≡ texts_content u → v ≡ u → IsCounted u.ords.shape (length (num_values_of u.ords.values))
    → n ≡ length (facets_of (map (λ k. facet_cell t (term_cell v.terms k)) (num_values_of v.ords.values)))
    → Some n ≡ distinct_terms (type_of c) (cells_of (content_of c))
distinct-of-terms n t c d u v same kind terms content own counted h =
    let cells = cells_of (texts_content u) in
    let count : n ≡ length (distinct_items cell_order cells) =
    h ∙ ap (λ (x : Texts). length (facets_of (map (λ k. facet_cell t (term_cell x.terms k)) (num_values_of x.ords.values)))) own
    ∙ ap (λ fs. length (facets_of fs))
    (sym (facets-seen u.terms (term_cell u.terms) u.ords.shape (num_values_of u.ords.values) counted t))
    ∙ facets-distinct t cells in
    ap Some count ∙ sym (ap (λ b. cond b (Some (length (distinct_items cell_order cells))) None) terms)
    ∙ ap₂ (λ k x. distinct_terms k (cells_of x)) (sym kind) (sym content)
    ∙ ap (λ x. distinct_terms (type_of x) (cells_of (content_of x))) (sym same)
