-- Columns that hold little are within the limits.
use Rattle.std.proofs.Common.{◌≡◌, ℕ, ◌+◌, ◌*◌, ◌≤◌, ◌<◌, ◌^◌, nat_le, false, pos, negsuc, List, [], ◌∷◌, filter_map, length, refl, ◌∙◌, ap, arith}
use Rattle.std.specs.declared.cmp.Ordering.{Ordering}
use Rattle.std.specs.declared.cmp.Ordering.TheVariants.{Less, Equal, Greater}
use Rattle.std.specs.Ordering.{match_ordering, nat_cmp}
use Rattle.std.specs.Cmp.Lexicographic.{slice_cmp}
use Rattle.std.proofs.lemmas.Bool.{and_left, lt-leb, or_from}
use Rattle.std.proofs.lemmas.List.Sums.{sum_by-cons}
use Rattle.col_model.specs.AddressList.{least_codes}
use Rattle.col_model.specs.ColumnType.{ColumnType}
use Rattle.col_model.specs.ColumnType as types
use Rattle.col_model.specs.Limits.{cell_count, dictionary_length, has_many_codes, is_multivalued, is_too_large, unsigned_number}
use Rattle.col_model.specs.Sorted.{distinct_items, with_item}
use Rattle.col_model.specs.Table.{Cell, number, text, Content}
use Rattle.col_model.specs.U64List.{joined_lists}
use Rattle.col_model.specs.Written.{text_of, texts_of}
use Rattle.col_model.proofs.CodeCounts.{length-distinct, three-codes}
use Rattle.col_model.proofs.ListLaws.{cell_count-cons}
use Rattle.col_csv.proofs.FieldLemmas.{weights}
use Rattle.col_csv.proofs.HeldLemmas.{weights-append}

-- ---- counts

-- each cell holds one at least
cells-few : (cells : List Cell) → length cells ≤ weights cells
cells-few [] = omega arith
cells-few (number z ∷ cells) = let later = cells-few cells in omega (arith, later)
cells-few (text s ∷ cells) = let later = cells-few cells in omega (arith, later)

-- so there are at most as many cells as they hold
count-few : (rows : List (List Cell)) → cell_count rows ≤ weights (joined_lists rows)
count-few [] = omega arith
count-few (row ∷ rows) =
    let later = count-few rows in
    let own = cells-few row in
    let a = cell_count-cons row rows in
    let b = weights-append row (joined_lists rows) in
    omega (arith, later, own, a, b)

-- ---- dictionaries

-- how much texts take in a dictionary
abbrev texts_held : List (List ℕ) → ℕ
texts_held [] = 0
texts_held (s ∷ found) = 4 + length s + texts_held found

-- a dictionary takes this much
dictionary-is : (found : List (List ℕ)) → dictionary_length found ≡ 4 + texts_held found
dictionary-is [] = refl
dictionary-is (s ∷ found) = let later = dictionary-is found in let e = sum_by-cons length s found in omega (arith, later, e)

-- one more term
with-held : (cmp : List ℕ → List ℕ → Ordering) (x : List ℕ) (ys : List (List ℕ))
    → texts_held (with_item cmp x ys) ≤ 4 + length x + texts_held ys
with-held cmp x [] = omega arith
with-held cmp x (y ∷ ys) = by (cmp x y) (with-held cmp x ys)
  where
    by : (o : Ordering) → texts_held (with_item cmp x ys) ≤ 4 + length x + texts_held ys
        → texts_held (match_ordering o (x ∷ y ∷ ys) (y ∷ ys) (y ∷ with_item cmp x ys)) ≤ 4 + length x + texts_held (y ∷ ys)
    by Less later = omega arith
    by Equal later = omega arith
    by Greater later = omega (arith, later)

-- the distinct terms take no more than all
distinct-held : (cmp : List ℕ → List ℕ → Ordering) (xs : List (List ℕ)) → texts_held (distinct_items cmp xs) ≤ texts_held xs
unfolding distinct_items
distinct-held cmp [] = omega arith
distinct-held cmp (x ∷ xs) =
    let one = with-held cmp x (distinct_items cmp xs) in let later = distinct-held cmp xs in omega (arith, one, later)

-- the texts of cells take at most four times what the cells hold
texts-held : (cells : List Cell) → texts_held (filter_map text_of cells) ≤ 4 * weights cells
texts-held [] = omega arith
texts-held (number z ∷ cells) = let later = texts-held cells in omega (arith, later)
texts-held (text s ∷ cells) = let later = texts-held cells in omega (arith, later)

-- and so does their dictionary
dictionary-few : (cells : List Cell) → dictionary_length (texts_of cells) ≤ 4 + 4 * weights cells
dictionary-few cells =
    let a = dictionary-is (texts_of cells) in
    let b = distinct-held (slice_cmp nat_cmp) (filter_map text_of cells) in
    let c = texts-held cells in
    omega (arith, a, b, c)

-- ---- codes

-- and at most as many numbers as cells
numbers-few : (cells : List Cell) → length (filter_map unsigned_number cells) ≤ weights cells
numbers-few [] = omega arith
numbers-few (number (pos n) ∷ cells) = let later = numbers-few cells in omega (arith, later)
numbers-few (number (negsuc n) ∷ cells) = let later = numbers-few cells in omega (arith, later)
numbers-few (text s ∷ cells) = let later = numbers-few cells in omega (arith, later)

-- the numbers of cells need at most three codes each
codes-few : (cells : List Cell) → least_codes (filter_map unsigned_number cells) ≤ 1 + 3 * weights cells
codes-few cells =
    let a = numbers-few cells in
    let b = length-distinct (filter_map unsigned_number cells) in
    let c = three-codes (distinct_items nat_cmp (filter_map unsigned_number cells)) in
    omega (arith, a, b, c)

-- ---- limits

-- cells that hold little need few codes
few-codes : (t : ColumnType) (rows : List (List Cell)) → 3 * weights (joined_lists rows) + 1 < 2 ^ 32 → has_many_codes t rows ≡ false
few-codes types.ip rows h =
    let c = codes-few (joined_lists rows) in
    lt-leb (2 ^ 32) (least_codes (filter_map unsigned_number (joined_lists rows))) (omega (arith, c, h))
few-codes types.i64 rows h = refl
few-codes types.u64 rows h = refl
few-codes types.bytes rows h = refl
few-codes types.str rows h = refl
few-codes types.bool rows h = refl
few-codes types.datetime rows h = refl

-- a column that isn't Multivalued, whose terms are its texts, is within the limits where its cells hold little
pub within-limits : (t : ColumnType) (c : Content) → is_multivalued c.cardinality ≡ false
    → c.terms ≡ texts_of (joined_lists c.rows) → 4 * weights (joined_lists c.rows) + 4 < 2 ^ 32 → is_too_large t c ≡ false
unfolding is_too_large
within-limits t c few terms h =
    let a = count-few c.rows in
    let b = dictionary-few (joined_lists c.rows) in
    or_from _ _ (or_from _ _ (or_from _ _ (lt-leb (2 ^ 32) (cell_count c.rows) (omega (arith, a, h))) (and_left _ _ few))
    (ap (λ terms. nat_le (2 ^ 32) (dictionary_length terms)) terms
    ∙ lt-leb (2 ^ 32) (dictionary_length (texts_of (joined_lists c.rows))) (omega (arith, b, h))))
    (few-codes t c.rows (omega (arith, h)))
