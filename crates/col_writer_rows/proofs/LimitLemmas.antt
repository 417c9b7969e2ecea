-- Which columns are too large.
use Rattle.std.proofs.Common.{◌≡◌, ◌<◌, ◌≤◌, ℕ, suc, ◌+◌, ◌-◌, ◌*◌, ◌^◌, List, [], ◌∷◌, ◌++◌, length, map, sum, not, Bool, true, false, cond, refl, sym, ap, ◌∙◌, arith}
use Rattle.std.specs.Prelude.{nat_le, max, ◌&&◌, ◌||◌, ◌==◌, count_by, filter_map}
use Rattle.std.specs.List.{list_all, zip}
use Rattle.std.specs.Ordering.{nat_cmp}
use Rattle.std.proofs.lemmas.Bool.{lt-leb}
use Rattle.std.proofs.lemmas.List.Sums.{sum_by-cons, sum-map}
use Rattle.std.proofs.lemmas.List.{length-map}
use Rattle.col_model.specs.AddressList.{codes_needed, least_codes}
use Rattle.col_model.specs.Column.{number_cell}
use Rattle.col_model.specs.ColumnType.{ColumnType}
use Rattle.col_model.specs.ColumnType as types
use Rattle.col_model.specs.Limits.{tightest, cell_count, is_multivalued, dictionary_length, unsigned_number, has_many_codes, is_too_large}
use Rattle.col_model.specs.Lookup.{is_at_most}
use Rattle.col_model.specs.Sorted.{inserted, sorted_items, distinct_items}
use Rattle.col_model.specs.Table.{Cell, full, optional, multivalued}
use Rattle.col_model.specs.U64List.{joined_lists}
use Rattle.col_model.proofs.CodeCounts.{length-distinct, three-codes}
use Rattle.col_model.proofs.ListLaws.{cell_count-cons}
use Rattle.std.proofs.lemmas.List.Elements.{filter_map-append}
use Rattle.col_writer_rows.specs.Documents.{docs_of}
use Rattle.col_writer_rows.specs.RowOrders.{AreRowDocs}
use Rattle.col_writer_rows.specs.Rows.{picked_rows, cells_in_order, cell_rows, number_cells}
use Rattle.col_writer_rows.proofs.ColumnLemmas.{picked-map}
use Rattle.col_writer_rows.proofs.RowLemmas.{lengths-picked, few-picked, placed-few}

-- ---- rows that aren't empty

some_rows : List (List Cell) → ℕ
some_rows rows = count_by (λ row. not (length row == 0)) rows

some-cons : (row : List Cell) (rows : List (List Cell)) → some_rows (row ∷ rows) ≡ cond (not (length row == 0)) 1 0 + some_rows rows
unfolding some_rows
some-cons row rows = sum_by-cons (λ r. cond (not (length r == 0)) 1 0) row rows

one-some : (row : List Cell) → cond (not (length row == 0)) 1 0 ≤ length row
one-some [] = omega arith
one-some (c ∷ row) = let e : (length (c ∷ row) == 0) ≡ false = grind arith in omega (arith, ap {B = ℕ} (λ b. cond (not b) 1 0) e)

few-rows : (rows : List (List Cell)) → some_rows rows ≤ cell_count rows
unfolding some_rows
few-rows [] = omega arith
few-rows (row ∷ rows) = omega (arith, some-cons row rows, cell_count-cons row rows, one-some row, few-rows rows)

more : (k : ℕ) → nat_le k 1 ≡ false → 1 < k
more k g = grind arith

at-most : (b : Bool) → cond b 1 0 ≤ 1
at-most true = omega arith
at-most false = omega arith

fewer-rows : (rows : List (List Cell)) → list_all (λ row. nat_le (length row) 1) rows ≡ false → some_rows rows < cell_count rows
fewer-rows [] e = absurd (cc)
fewer-rows (row ∷ rows) e = by (nat_le (length row) 1) refl e (λ f. fewer-rows rows f)
  where
    by : (b : Bool) → nat_le (length row) 1 ≡ b → (b && list_all (λ row. nat_le (length row) 1) rows) ≡ false
        → (list_all (λ row. nat_le (length row) 1) rows ≡ false → some_rows rows < cell_count rows)
        → some_rows (row ∷ rows) < cell_count (row ∷ rows)
    by true g f rest = omega (arith, some-cons row rows, cell_count-cons row rows, one-some row, rest f)
    by false g f rest =
        let many : 1 < length row = more (length row) g in
        omega (arith, some-cons row rows, cell_count-cons row rows, few-rows rows, at-most (not (length row == 0)), many)

-- ---- columns of few cells

over : (m k : ℕ) → k < m → nat_le m k ≡ false
over m k h = grind arith

multi : (a b : Bool) → is_multivalued (cond a full (cond b optional multivalued)) ≡ true → b ≡ false
multi true true e = cc
multi true false e = refl
multi false true e = cc
multi false false e = refl

few-some : (rows : List (List Cell)) → cell_count rows < 2 ^ 32
    → (is_multivalued (tightest rows) && nat_le (2 ^ 32 - 1) (some_rows rows)) ≡ false
few-some rows h = by (is_multivalued (tightest rows)) refl
  where
    by : (b : Bool) → is_multivalued (tightest rows) ≡ b → (b && nat_le (2 ^ 32 - 1) (some_rows rows)) ≡ false
    by false e = refl
    by true e =
        let fewer = fewer-rows rows (multi (list_all (λ row. length row == 1) rows) (list_all (λ row. nat_le (length row) 1) rows) e) in
        over (2 ^ 32 - 1) (some_rows rows) (omega (arith, fewer, h))

-- a column of fewer than 2 ^ 32 cells is too large by its terms or its codes alone
pub few-too_large : (t : ColumnType) (terms : List (List ℕ)) (rows : List (List Cell)) → cell_count rows < 2 ^ 32
    → is_too_large t (record { cardinality = tightest rows; terms = terms; rows = rows })
    ≡ (nat_le (2 ^ 32) (dictionary_length terms) || has_many_codes t rows)
unfolding is_too_large some_rows
few-too_large t terms rows h =
    λ i. over (2 ^ 32) (cell_count rows) h i || few-some rows h i || nat_le (2 ^ 32) (dictionary_length terms) || has_many_codes t rows

-- ---- cells of values

length-inserted : (x : Cell) (ys : List Cell) → length (inserted is_at_most x ys) ≡ suc (length ys)
length-inserted x [] = refl
length-inserted x (y ∷ ys) = by (is_at_most x y) (length-inserted x ys)
  where
    by : (b : Bool) → length (inserted is_at_most x ys) ≡ suc (length ys)
        → length (cond b (x ∷ y ∷ ys) (y ∷ inserted is_at_most x ys)) ≡ suc (suc (length ys))
    by true rest = refl
    by false rest = ap suc rest

length-sorted : (xs : List Cell) → length (sorted_items is_at_most xs) ≡ length xs
unfolding sorted_items
length-sorted [] = refl
length-sorted (x ∷ xs) = length-inserted x (sorted_items is_at_most xs) ∙ ap suc (length-sorted xs)

length-in_order : (sorts : Bool) (cells : List Cell) → length (cells_in_order sorts cells) ≡ length cells
length-in_order true cells = length-sorted cells
length-in_order false cells = refl

lengths-in_order : (sorts : Bool) (rows : List (List Cell)) → map length (map (cells_in_order sorts) rows) ≡ map length rows
lengths-in_order sorts [] = refl
lengths-in_order sorts (row ∷ rows) = λ i. length-in_order sorts row i ∷ lengths-in_order sorts rows i

-- rows have no more cells than were recorded
pub few-cells : (sorts : Bool) (n : ℕ) (ds : List ℕ) (qs : List (ℕ × Cell)) → AreRowDocs n ds
    → cell_count (cell_rows sorts ds qs) ≤ length qs
unfolding cell_rows
few-cells sorts n ds qs h =
    let rows = picked_rows ds qs in
    omega (
      arith,
      sum-map length (map (cells_in_order sorts) rows),
      ap sum (lengths-in_order sorts rows),
      ap sum (lengths-picked ds qs),
      few-picked (docs_of qs) ds h.once,
      length-map qs (λ q. q.0),
    )

-- ---- codes of addresses

numbers-again : (xs : List ℕ) → filter_map unsigned_number (map (number_cell types.ip) xs) ≡ xs
numbers-again [] = refl
numbers-again (x ∷ xs) = ap (λ r. x ∷ r) (numbers-again xs)

rows-again : (rows : List (List ℕ)) → filter_map unsigned_number (joined_lists (map (map (number_cell types.ip)) rows)) ≡ joined_lists rows
rows-again [] = refl
rows-again (xs ∷ rows) =
    filter_map-append unsigned_number (map (number_cell types.ip) xs) (joined_lists (map (map (number_cell types.ip)) rows))
    ∙ (λ i. numbers-again xs i ++ rows-again rows i)

map-plain : (rows : List (List Cell)) → map (cells_in_order false) rows ≡ rows
map-plain [] = refl
map-plain (row ∷ rows) = ap (λ r. row ∷ r) (map-plain rows)

-- the codes that the addresses of rows need
pub codes-needed : (ds docs xs : List ℕ)
    → has_many_codes types.ip (cell_rows false ds (number_cells types.ip docs xs))
    ≡ nat_le (2 ^ 32) (least_codes (joined_lists (picked_rows ds (zip docs xs))))
unfolding cell_rows
codes-needed ds docs xs =
    ap (λ r. nat_le (2 ^ 32) (least_codes (filter_map unsigned_number (joined_lists r))))
    (map-plain (picked_rows ds (number_cells types.ip docs xs)) ∙ picked-map (number_cell types.ip) ds docs xs)
    ∙ ap (λ r. nat_le (2 ^ 32) (least_codes r)) (rows-again (picked_rows ds (zip docs xs)))

-- ---- few addresses

-- so many addresses need few codes
few-codes : (xs : List ℕ) → length xs ≤ 1431655765 → nat_le (2 ^ 32) (least_codes xs) ≡ false
few-codes xs h =
    not-at-most (max 1 (codes_needed (distinct_items nat_cmp xs))) (most (codes_needed (distinct_items nat_cmp xs))
    (omega (arith, h, length-distinct xs, three-codes (distinct_items nat_cmp xs))))
  where
    most : (n : ℕ) → n < 2 ^ 32 → max 1 n < 2 ^ 32
    most n k = omega (arith, k)

    not-at-most : (n : ℕ) → n < 2 ^ 32 → nat_le (2 ^ 32) n ≡ false
    not-at-most n k = lt-leb (2 ^ 32) n k

-- and those of rows, which are no more
pub few-needed : (ds docs xs : List ℕ) → AreRowDocs (length ds) ds → length docs ≡ length xs
    → length xs ≤ 1431655765 → false ≡ nat_le (2 ^ 32) (least_codes (joined_lists (picked_rows ds (zip docs xs))))
few-needed ds docs xs placed beside few =
    sym (few-codes (joined_lists (picked_rows ds (zip docs xs)))
    (omega (arith, placed-few ds docs xs beside placed, beside, few)))
