-- Facets of terms by tables of their ordinals, and of columns.
use Rattle.std.proofs.Common.{◌≡◌, ℕ, zero, suc, ◌+◌, ◌<◌, ◌==◌, true, List, [], ◌∷◌, map, take, drop, length, get_or, slice_get, unwrap_or, refl, sym, ◌∙◌, ap, subst, arith}
use Rattle.std.specs.List.{AllByRecursion, count_by, range_with_len}
use Rattle.std.specs.declared.cmp.Ordering.TheVariants.{Less}
use Rattle.std.specs.Ordering.{nat_cmp}
use Rattle.std.specs.Cmp.Lexicographic.{slice_cmp}
use Rattle.std.proofs.lemmas.Bool.{and_parts}
use Rattle.std.proofs.lemmas.Cmp.{nat_list_cmp_total}
use Rattle.col_common.specs.Ascending.{AreBelow, is_ascending, is_before}
use Rattle.col_model.specs.Index.{Shape}
use Rattle.col_model.specs.Positions.{count_in, start_in}
use Rattle.col_model.proofs.ListLaws.{all-two}
use Rattle.col_model.proofs.OrderingLaws.{less_where}
use Rattle.col_model.proofs.StatsLaws.{all_by}
use Rattle.col_column.specs.Columns.{Seen, rows_by, row_at, row_count, rows_of_values, content_seen, IsCounted}
use Rattle.col_facet.specs.Facets.{facets_of, copies, are_ascending, facet_cell, counted_as}
use Rattle.col_facet.specs.Tables.{AreRising, counted_from, term_at}
use Rattle.col_facet.specs.Values.{values_in_rows}
use Rattle.col_facet.specs.declared.facet_cell.FacetCell.{FacetCell}
use Rattle.col_facet.specs.declared.facet_cell.FacetCount.{FacetCount}
use Rattle.std.specs.Prelude.{Result, Ok, Err, IfOk, Vec, flat_map}
use Rattle.std.specs.declared.alloc.AllocError.{AllocError}
use Rattle.std.specs.declared.alloc.Global.{Global}
use Rattle.col_model.specs.ColumnType.{ColumnType}
use Rattle.col_model.specs.Facets.{facet_of}
use Rattle.col_model.specs.Lookup.{row_of}
use Rattle.col_model.specs.Table.{Cell}
use Rattle.col_dynamic.specs.Dynamic.{type_of, content_of, dynamic_shape, value_count}
use Rattle.col_dynamic.proofs.RowLemmas.{seen-rows}
use Rattle.col_dynamic.specs.declared.dynamic_column.DynamicColumn.{DynamicColumn}
use Rattle.col_numbers.specs.NumValues.{num_values_of}
use Rattle.col_numbers.specs.declared.num_values.NumValues.{NumValues}
use Rattle.col_text.specs.Texts.{AreOrdinals}
use Rattle.col_facet.proofs.MergeLemmas.{ascending-distinct}
use Rattle.col_facet.proofs.CellLemmas.{counts-of-cells}
use Rattle.col_facet.proofs.DocLemmas.{row-taken, rows-length, seen-cells, values-whole}
use Rattle.col_facet.proofs.PlaceLemmas.{own-places, table-placed}

-- ---- terms

terms-behind : (t : List ℕ) (ts : List (List ℕ)) → is_ascending (t ∷ ts) ≡ true
    → AllByRecursion (λ u. slice_cmp nat_cmp t u ≡ Less) ts × (is_ascending ts ≡ true)
terms-behind t [] e = (tt, refl)
terms-behind t (u ∷ ts) e =
    let both = and_parts (is_before t u) (is_ascending (u ∷ ts)) e in
    let less = less_where (slice_cmp nat_cmp t u) both.0 in
    let later = terms-behind u ts both.1 in
    ((less, all_by (λ v h. nat_list_cmp_total.trans t u v less h) ts later.0), both.1)

item-of : (P : List ℕ → Type 0) (ts : List (List ℕ)) (j : ℕ) → j < length ts → AllByRecursion P ts → P (unwrap_or (slice_get ts j) [])
item-of P [] j h all = absurd (omega (arith, h))
item-of P (t ∷ ts) zero h all = all.0
item-of P (t ∷ ts) (suc j) h all = item-of P ts j (omega (arith, h)) all.1

-- the cells of ascending terms ascend
pub terms-rise : (ts : List (List ℕ)) → is_ascending ts ≡ true → AreRising (term_at ts) (length ts)
terms-rise [] e i j h l = absurd (omega (arith, l))
terms-rise (t ∷ ts) e zero zero h l = absurd (omega (arith, h))
terms-rise (t ∷ ts) e zero (suc j) h l =
    item-of (λ u. slice_cmp nat_cmp t u ≡ Less) ts j (omega (arith, l)) ((terms-behind t ts e).0)
terms-rise (t ∷ ts) e (suc i) zero h l = absurd (omega (arith, h))
terms-rise (t ∷ ts) e (suc i) (suc j) h l = terms-rise ts ((terms-behind t ts e).1) i j (omega (arith, h)) (omega (arith, l))

all-part : {T : Type 0} (P : T → Type 0) (m n : ℕ) (xs : List T) → AllByRecursion P xs → AllByRecursion P (take n (drop m xs))
all-part P zero zero xs all = tt
all-part P zero (suc n) [] all = tt
all-part P zero (suc n) (x ∷ xs) all = (all.0, all-part P zero n xs all.1)
all-part P (suc m) zero [] all = tt
all-part P (suc m) (suc n) [] all = tt
all-part P (suc m) n (x ∷ xs) all = all-part P m n xs all.1

-- what all values keep, those in the rows of documents keep
pub all-values : {T : Type 0} (P : T → Type 0) (s : Shape) (xs : List T) (docs : List ℕ) → AllByRecursion P xs
    → AllByRecursion P (values_in_rows (rows_by s xs) docs)
unfolding values_in_rows
all-values P s xs [] all = tt
all-values P s xs (d ∷ docs) all =
    all-two P (row_at (rows_by s xs) d) _
    (subst (AllByRecursion P) (sym (row-taken s xs d)) (all-part P (start_in s d) (count_in s d) xs all))
    (all-values P s xs docs all)

-- a table of the counts of ordinals gives the facets of their terms
pub term-table : (terms : List (List ℕ)) (counts xs : List ℕ) → is_ascending terms ≡ true → length counts ≡ length terms
    → AreBelow (length terms) xs
    → ((i : ℕ) → i < length terms → get_or counts i 0 ≡ count_by (λ x. x == 0 + i) xs)
    → counted_from (term_at terms) 0 counts ≡ facets_of (map (term_at terms) xs)
term-table terms counts xs up size below told =
    table-placed (λ n. n) (term_at terms) (term_at terms) 0 (length terms) xs counts (terms-rise terms up)
    (own-places (term_at terms) (length terms) xs below) size told

-- the same of the ordinals in the rows of documents
pub term-counted : (terms : List (List ℕ)) (ords seen : Seen (NumValues ℕ)) (docs counts : List ℕ) (n : ℕ) → AreOrdinals terms ords
    → seen ≡ ords → n ≡ length terms → length counts ≡ n
    → ((i : ℕ) → i < n → get_or counts i 0 ≡ count_by (λ x. x == 0 + i) (values_in_rows (rows_of_values num_values_of seen) docs))
    → counted_from (term_at terms) 0 counts ≡ facets_of (map (term_at terms) (values_in_rows (rows_of_values num_values_of ords) docs))
term-counted terms ords seen docs counts n told same size length_is counted =
    let xs = values_in_rows (rows_of_values num_values_of ords) docs in
    term-table terms counts xs told.ascend (length_is ∙ size)
    (all-values (λ x. x < length terms) ords.shape (num_values_of ords.values) docs told.below)
    (λ i h. counted i (omega (arith, h, size))
    ∙ ap (λ (s : Seen (NumValues ℕ)). count_by (λ x. x == 0 + i) (values_in_rows (rows_of_values num_values_of s) docs)) same)

-- the same of all ordinals
pub all-terms-counted : (terms : List (List ℕ)) (ords : Seen (NumValues ℕ)) (counts xs : List ℕ) (n : ℕ) → AreOrdinals terms ords
    → xs ≡ num_values_of ords.values → n ≡ length terms → length counts ≡ n
    → ((i : ℕ) → i < n → get_or counts i 0 ≡ count_by (λ x. x == 0 + i) xs)
    → counted_from (term_at terms) 0 counts ≡ facets_of (map (term_at terms) (num_values_of ords.values))
all-terms-counted terms ords counts xs n told same size length_is counted =
    term-table terms counts (num_values_of ords.values) told.ascend (length_is ∙ size) told.below
    (λ i h. counted i (omega (arith, h, size)) ∙ ap (count_by (λ x. x == 0 + i)) same)

-- ---- columns

-- facets ascend
pub ascending-facets : (cs : List FacetCell) → are_ascending (facets_of cs) ≡ true
unfolding facets_of
ascending-facets cs = ascending-distinct cs (copies cs)

-- facets that were found ascend
pub found-ascend : (r : Result (Vec FacetCount Global) AllocError) (cs : List FacetCell) → IfOk r (λ v. v.items ≡ facets_of cs)
    → IfOk r (λ v. are_ascending v.items ≡ true)
found-ascend (Ok v) cs e = subst (λ fs. are_ascending fs ≡ true) (sym e) (ascending-facets cs)
found-ascend (Err x) cs h = h

-- facets of the values in rows are the counts of their cells
pub found-cells : {T : Type 0} (r : Result (Vec FacetCount Global) AllocError) (t : ColumnType) (terms : List (List ℕ))
    (cell : T → Cell) (s : Shape) (xs : List T) (docs : List ℕ)
    → IfOk r (λ v. v.items ≡ facets_of (map (λ x. facet_cell t (cell x)) (values_in_rows (rows_by s xs) docs)))
    → IfOk r (λ v. v.items ≡ counted_as t (facet_of (content_seen terms cell s xs) docs))
found-cells r t terms cell s xs docs h =
    let content = content_seen terms cell s xs in
    subst (λ (fs : List FacetCount). IfOk r (λ v. v.items ≡ fs))
    (ap facets_of (sym (seen-cells terms cell s xs docs (facet_cell t)))
    ∙ counts-of-cells t (flat_map (row_of content) docs)) h

-- the same of all rows
pub all-cells : {T : Type 0} (r : Result (Vec FacetCount Global) AllocError) (t : ColumnType) (terms : List (List ℕ))
    (cell : T → Cell) (s : Shape) (xs : List T)
    → IfOk r (λ v. v.items ≡ facets_of (map (λ x. facet_cell t (cell x))
    (values_in_rows (rows_by s xs) (range_with_len 0 (row_count s (length xs))))))
    → IfOk r (λ v. v.items ≡ counted_as t (facet_of (content_seen terms cell s xs)
    (range_with_len 0 (length (map (map cell) (rows_by s xs))))))
all-cells r t terms cell s xs h =
    subst (λ n. IfOk r (λ v. v.items ≡ counted_as t (facet_of (content_seen terms cell s xs) (range_with_len 0 n))))
    (sym (rows-length (map cell) s xs))
    (found-cells r t terms cell s xs (range_with_len 0 (row_count s (length xs))) h)

-- documents below its number of rows
pub docs-of : (c d : DynamicColumn) (docs : List ℕ) → c ≡ d → AreBelow (length (content_of c).rows) docs
    → AreBelow (row_count (dynamic_shape d) (value_count d)) docs
docs-of c d docs e below = subst (λ n. AreBelow n docs) (ap (λ x. length (content_of x).rows) e ∙ seen-rows d) below

-- facets of it
pub facets-of : (r : Result (Vec FacetCount Global) AllocError) (c d : DynamicColumn) (docs : List ℕ) → c ≡ d
    → IfOk r (λ v. v.items ≡ counted_as (type_of d) (facet_of (content_of d) docs))
    → IfOk r (λ v. v.items ≡ counted_as (type_of c) (facet_of (content_of c) docs))
facets-of r c d docs e h =
    subst (λ x. IfOk r (λ v. v.items ≡ counted_as (type_of x) (facet_of (content_of x) docs))) (sym e) h

-- the counts of the cells in all rows of a column
abbrev pub whole_facets : DynamicColumn → List FacetCount
whole_facets c = counted_as (type_of c) (facet_of (content_of c) (range_with_len 0 (length (content_of c).rows)))

-- facets of all its rows
pub all-facets-of : (r : Result (Vec FacetCount Global) AllocError) (c d : DynamicColumn) → c ≡ d
    → IfOk r (λ v. v.items ≡ whole_facets d) → IfOk r (λ v. v.items ≡ whole_facets c)
all-facets-of r c d e h = subst (λ x. IfOk r (λ v. v.items ≡ whole_facets x)) (sym e) h

-- facets of all values of a column are those of the values in all its rows
pub whole-found : {T : Type 0} (r : Result (Vec FacetCount Global) AllocError) (cell : T → FacetCell) (s : Shape) (xs ys : List T)
    → ys ≡ xs → IsCounted s (length xs) → IfOk r (λ v. v.items ≡ facets_of (map cell ys))
    → IfOk r (λ v. v.items ≡ facets_of (map cell (values_in_rows (rows_by s xs) (range_with_len 0 (row_count s (length xs))))))
whole-found r cell s xs ys e counted h =
    subst (λ zs. IfOk r (λ v. v.items ≡ facets_of (map cell zs))) (e ∙ sym (values-whole s xs counted)) h
