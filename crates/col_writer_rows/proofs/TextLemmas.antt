-- Columns of texts, by the ordinals of their terms.
use Rattle.std.proofs.Common.{◌≡◌, ◌<◌, ◌≤◌, ℕ, zero, suc, ◌+◌, ◌*◌, ◌-◌, ◌^◌, List, [], ◌∷◌, ◌++◌, length, map, take, get_or, Bool, true, false, cond, not, min, Some, unwrap_or, Result, Ok, refl, sym, ap, ◌∙◌, subst, arith, lt-ltb, le-ltb, append_assoc}
use Rattle.std.specs.Prelude.{nat_lt, nat_le, ◌&&◌, slice_get, slice_index_or, bytes_eq, sum_by}
use Rattle.std.specs.Int.{w32, to_le_bytes}
use Rattle.std.specs.List.{list_all, zip, IsDistinct}
use Rattle.std.specs.Ordering.{nat_cmp, is_gt}
use Rattle.std.specs.Cmp.Lexicographic.{slice_cmp}
use Rattle.std.proofs.lemmas.Bool.{and_parts, and_from, leb-false}
use Rattle.std.proofs.lemmas.List.{take_more, length-map}
use Rattle.std.proofs.lemmas.List.Sorted.{length_permutation, sum_by-IsPermutation}
use Rattle.std.proofs.lemmas.Nat.{from_le_bytes-to_le_bytes_4}
use Rattle.std.proofs.lemmas.Option.{slice_get_within, get_or_from_slice_get}
use Rattle.col_common.specs.Outside.{SeenSink}
use Rattle.col_common.specs.Reading.{parts_by_first}
use Rattle.col_common.specs.Serializing.{Serializes}
use Rattle.col_common.specs.declared.error.ColumnarError.{ColumnarError}
use Rattle.col_common.proofs.SerializingLemmas.{serializes-then}
use Rattle.col_common.proofs.OnOkLemmas.{on_ok-map, on_ok-always}
use Rattle.col_common.specs.Ascending.{are_below}
use Rattle.col_model.specs.Column.{number_rows, is_stored, term_cell, term_column, cut_content, column}
use Rattle.col_model.specs.ColumnType.{ColumnType, has_terms}
use Rattle.col_model.specs.ColumnType as types
use Rattle.col_model.specs.Dictionary.{cut, terms}
use Rattle.col_model.specs.Index.{Counts}
use Rattle.col_model.specs.Limits.{tightest, dictionary_length}
use Rattle.col_model.specs.Lookup.{is_at_most}
use Rattle.col_model.specs.Sorted.{inserted, sorted_items}
use Rattle.col_model.specs.Table.{Cell}
use Rattle.col_model.specs.Table as tables
use Rattle.col_model.specs.U64List.{joined_lists}
use Rattle.col_model.specs.Version.{current_version}
use Rattle.col_model.proofs.ListLaws.{item-at}
use Rattle.col_model.proofs.ReadingLaws.{front-append, back-append}
use Rattle.col_column.specs.Counted.{tightest_of}
use Rattle.col_column.specs.Written.{Stores64}
use Rattle.col_terms.specs.Building.{ordered, ordinals, is_too_long, counted_bytes, SerializesWithin}
use Rattle.col_terms.specs.Laws.{OrdinalsAreInOrder, DictionariesAreReadBack, TermsAreThoseGiven}
use Rattle.col_terms.specs.TermTable.{dictionary_bytes}
use Rattle.col_terms.proofs.OrderedLemmas.{permutation-ordered}
use Rattle.col_column.proofs.TightestLemmas.{tightest-counts}
use Rattle.col_model.proofs.CutLaws.{lengths-map, cut-joined}
use Rattle.col_writer_rows.specs.Counted.{SerializesCounted, SerializesColumn}
use Rattle.col_writer_rows.specs.Rows.{values_at, picked_rows, numbers_in_order, ord_rows, cells_in_order, cell_rows}
use Rattle.col_writer_rows.specs.Terms.{ord_by, text_cells, text_content, SerializesBehindTerms}
use Rattle.col_writer_rows.proofs.ColumnLemmas.{picked-map, all-values, length-picked}
use Rattle.col_writer_rows.proofs.DictionaryLemmas.{written}

-- ---- how long a dictionary is

total-length : (ts : List (List ℕ)) → IsDistinct bytes_eq ts → dictionary_length (ordered ts) ≡ 4 + 4 * length ts + sum_by length ts
total-length ts d =
    let same = permutation-ordered ts d in
    omega (arith, length_permutation ts (ordered ts) same, sum_by-IsPermutation length ts (ordered ts) same)

-- the bytes of terms that aren't too long are four, four for each and the terms', and 32 bits count
-- them
pub short-length : (ts : List (List ℕ)) → IsDistinct bytes_eq ts → is_too_long ts ≡ false
    → (dictionary_length (ordered ts) ≡ 4 + 4 * length ts + sum_by length ts)
    × (4 + 4 * length ts + sum_by length ts < 2 ^ 32)
short-length ts d e =
    let total = total-length ts d in
    (total, omega (arith, total, leb-false (2 ^ 32) (dictionary_length (ordered ts)) e))

over : (n s a e r : ℕ) → a ≡ min (n * 4) (2 ^ 64 - 1) → e ≡ min (a + 4) (2 ^ 64 - 1)
    → r ≡ min (e + min s (2 ^ 64 - 1)) (2 ^ 64 - 1) → nat_lt (2 ^ 32 - 1) r ≡ nat_le (2 ^ 32) (4 + 4 * n + s)
over n s a e r f g h = by (nat_le (2 ^ 32) (4 + 4 * n + s)) refl
  where
    reached : (m : ℕ) → nat_le (2 ^ 32) m ≡ true → 2 ^ 32 ≤ m
    reached m t = grind arith

    by : (b : Bool) → nat_le (2 ^ 32) (4 + 4 * n + s) ≡ b → nat_lt (2 ^ 32 - 1) r ≡ b
    by true t = lt-ltb (2 ^ 32 - 1) r (omega (arith, reached (4 + 4 * n + s) t, f, g, h))
    by false t = le-ltb (2 ^ 32 - 1) r (omega (arith, leb-false (2 ^ 32) (4 + 4 * n + s) t, f, g, h))

-- the test of a dictionary's length by saturating numbers
pub long-test : (ts : List (List ℕ)) (n b a e r : ℕ) → IsDistinct bytes_eq ts → n ≡ length ts → b ≡ counted_bytes ts
    → a ≡ min (n * 4) (2 ^ 64 - 1) → e ≡ min (a + 4) (2 ^ 64 - 1) → r ≡ min (e + b) (2 ^ 64 - 1)
    → nat_lt (2 ^ 32 - 1) r ≡ is_too_long ts
long-test ts n b a e r d count bytes f g h =
    over (length ts) (sum_by length ts) a e r (f ∙ ap (λ k. min (k * 4) (2 ^ 64 - 1)) count) g
    (h ∙ ap (λ k. min (e + k) (2 ^ 64 - 1)) bytes) ∙ ap (nat_le (2 ^ 32)) (sym (total-length ts d))

-- ---- the ordinals of terms

is_below : (i m : ℕ) → nat_lt i m ≡ true → i < m
is_below i m e = grind arith

ords-below : (ts : List (List ℕ)) (ids : List ℕ) → TermsAreThoseGiven → are_below (length ts) ids ≡ true
    → are_below (length (ordered ts)) (map (ord_by (ordinals ts)) ids) ≡ true
ords-below ts [] law e = refl
ords-below ts (id ∷ ids) law e =
    let parts = and_parts (nat_lt id (length ts)) (are_below (length ts) ids) e in
    let low = is_below id (length ts) parts.0 in
    let some = item-at ts id low in
    let here : ord_by (ordinals ts) id < length (ordered ts) =
    slice_get_within (ordered ts) (ord_by (ordinals ts) id) some.0 (law.places ts id low ∙ some.1) in
    and_from (nat_lt (ord_by (ordinals ts) id) (length (ordered ts)))
    (are_below (length (ordered ts)) (map (ord_by (ordinals ts)) ids)) (lt-ltb _ _ here)
    (ords-below ts ids law parts.1)

cells-same : (ts : List (List ℕ)) (ids : List ℕ) → TermsAreThoseGiven → are_below (length ts) ids ≡ true
    → map (term_cell (ordered ts)) (map (ord_by (ordinals ts)) ids) ≡ map (term_cell ts) ids
cells-same ts [] law e = refl
cells-same ts (id ∷ ids) law e =
    let parts = and_parts (nat_lt id (length ts)) (are_below (length ts) ids) e in
    λ i. tables.text (unwrap_or (law.places ts id (is_below id (length ts) parts.0) i) []) ∷ cells-same ts ids law parts.1 i

-- ---- sorted rows

-- two ordinals compare as the cells of their terms
pub AreInOrder : List (List ℕ) → Type 0
AreInOrder found = (i j : ℕ) → i < length found → j < length found → is_at_most (term_cell found i) (term_cell found j) ≡ nat_le i j

at_most-by : (i j : ℕ) → not (is_gt (nat_cmp i j)) ≡ nat_le i j
at_most-by i j = grind arith

found-or : (found : List (List ℕ)) (i : ℕ) → unwrap_or (slice_get found i) [] ≡ slice_index_or found i []
found-or [] i = refl
found-or (t ∷ ts) zero = refl
found-or (t ∷ ts) (suc i) = found-or ts i

pub in-order : (bytes : List ℕ) (found : List (List ℕ)) → OrdinalsAreInOrder → terms bytes ≡ Some found → AreInOrder found
unfolding AreInOrder
in-order bytes found law read i j a b =
    (λ k. not (is_gt (slice_cmp nat_cmp (found-or found i k) (found-or found j k))))
    ∙ ap (λ o. not (is_gt o)) (law bytes found read i j a b) ∙ at_most-by i j

inserted-cells : (found : List (List ℕ)) (x : ℕ) (ys : List ℕ) → AreInOrder found → x < length found
    → are_below (length found) ys ≡ true
    → map (term_cell found) (inserted nat_le x ys)
    ≡ inserted is_at_most (term_cell found x) (map (term_cell found) ys)
unfolding AreInOrder
inserted-cells found x [] law low e = refl
inserted-cells found x (y ∷ ys) law low e =
    let parts = and_parts (nat_lt y (length found)) (are_below (length found) ys) e in
    by (nat_le x y) (is_at_most (term_cell found x) (term_cell found y))
    (law x y low (is_below y (length found) parts.0)) (inserted-cells found x ys law low parts.1)
  where
    by : (a b : Bool) → b ≡ a
        → map (term_cell found) (inserted nat_le x ys)
        ≡ inserted is_at_most (term_cell found x) (map (term_cell found) ys)
        → map (term_cell found) (cond a (x ∷ y ∷ ys) (y ∷ inserted nat_le x ys))
        ≡ cond b (term_cell found x ∷ term_cell found y ∷ map (term_cell found) ys)
        (term_cell found y ∷ inserted is_at_most (term_cell found x) (map (term_cell found) ys))
    by true true s rest = refl
    by false false s rest = ap (λ r. term_cell found y ∷ r) rest
    by true false s rest = cc
    by false true s rest = cc

all-inserted : (p : ℕ → Bool) (x : ℕ) (ys : List ℕ) → p x ≡ true → list_all p ys ≡ true → list_all p (inserted nat_le x ys) ≡ true
all-inserted p x [] e f = and_from (p x) true e refl
all-inserted p x (y ∷ ys) e f =
    let parts = and_parts (p y) (list_all p ys) f in
    by (nat_le x y) parts.0 (all-inserted p x ys e parts.1)
  where
    by : (b : Bool) → p y ≡ true → list_all p (inserted nat_le x ys) ≡ true
        → list_all p (cond b (x ∷ y ∷ ys) (y ∷ inserted nat_le x ys)) ≡ true
    by true g rest = and_from (p x) (p y && list_all p ys) e f
    by false g rest = and_from (p y) (list_all p (inserted nat_le x ys)) g rest

all-sorted : (p : ℕ → Bool) (xs : List ℕ) → list_all p xs ≡ true → list_all p (sorted_items nat_le xs) ≡ true
unfolding sorted_items
all-sorted p [] e = refl
all-sorted p (x ∷ xs) e =
    let parts = and_parts (p x) (list_all p xs) e in all-inserted p x (sorted_items nat_le xs) parts.0
    (all-sorted p xs parts.1)

sorted-cells : (found : List (List ℕ)) (xs : List ℕ) → AreInOrder found → are_below (length found) xs ≡ true
    → map (term_cell found) (sorted_items nat_le xs) ≡ sorted_items is_at_most (map (term_cell found) xs)
unfolding sorted_items
sorted-cells found [] law e = refl
sorted-cells found (x ∷ xs) law e =
    let parts = and_parts (nat_lt x (length found)) (are_below (length found) xs) e in
    inserted-cells found x (sorted_items nat_le xs) law (is_below x (length found) parts.0)
    (all-sorted (λ y. nat_lt y (length found)) xs parts.1)
    ∙ ap (inserted is_at_most (term_cell found x)) (sorted-cells found xs law parts.1)

ordered-cells : (sorts : Bool) (found : List (List ℕ)) (xs : List ℕ) → AreInOrder found
    → are_below (length found) xs ≡ true
    → map (term_cell found) (numbers_in_order sorts xs) ≡ cells_in_order sorts (map (term_cell found) xs)
ordered-cells true found xs law e = sorted-cells found xs law e
ordered-cells false found xs law e = refl

rows-cells : (sorts : Bool) (found : List (List ℕ)) (xss : List (List ℕ)) → AreInOrder found
    → list_all (are_below (length found)) xss ≡ true
    → map (map (term_cell found)) (map (numbers_in_order sorts) xss)
    ≡ map (cells_in_order sorts) (map (map (term_cell found)) xss)
rows-cells sorts found [] law e = refl
rows-cells sorts found (xs ∷ xss) law e =
    let parts = and_parts (are_below (length found) xs) (list_all (are_below (length found)) xss) e in
    λ i. ordered-cells sorts found xs law parts.0 i ∷ rows-cells sorts found xss law parts.1 i

ordered-below : (sorts : Bool) (m : ℕ) (xs : List ℕ) → are_below m xs ≡ true → are_below m (numbers_in_order sorts xs) ≡ true
ordered-below true m xs e = all-sorted (λ y. nat_lt y m) xs e
ordered-below false m xs e = e

rows-below : (sorts : Bool) (m : ℕ) (xss : List (List ℕ)) → list_all (are_below m) xss ≡ true
    → list_all (are_below m) (map (numbers_in_order sorts) xss) ≡ true
rows-below sorts m [] e = refl
rows-below sorts m (xs ∷ xss) e =
    let parts = and_parts (are_below m xs) (list_all (are_below m) xss) e in
    and_from (are_below m (numbers_in_order sorts xs)) (list_all (are_below m) (map (numbers_in_order sorts) xss))
    (ordered-below sorts m xs parts.0) (rows-below sorts m xss parts.1)

picked-below : (m : ℕ) (ds docs xs : List ℕ) → are_below m xs ≡ true → list_all (are_below m) (picked_rows ds (zip docs xs)) ≡ true
unfolding picked_rows
picked-below m [] docs xs e = refl
picked-below m (d ∷ ds) docs xs e =
    and_from (are_below m (values_at (zip docs xs) d)) (list_all (are_below m) (picked_rows ds (zip docs xs)))
    (all-values (λ y. nat_lt y m) docs xs d e) (picked-below m ds docs xs e)

-- ---- the column

pub parts-w32 : (a b : List ℕ) → length a < 2 ^ 32 → parts_by_first w32 ((a ++ b) ++ to_le_bytes w32 (length a)) ≡ Some (a, b)
unfolding parts_by_first
parts-w32 a b h =
    rw (back-append 4 (a ++ b) (to_le_bytes w32 (length a)) refl)
    (front-append _ a b (from_le_bytes-to_le_bytes_4 (length a) h))

-- a dictionary, numbers below its count and its length are read as a column of terms
pub term_column-read :
    (dict numbers : List ℕ) (t : ColumnType) (n : ℕ) (found : List (List ℕ)) (c : Counts) (rows : List (List ℕ))
    → has_terms t ≡ true → length dict < 2 ^ 32 → terms dict ≡ Some found
    → number_rows numbers t current_version n ≡ Some (c, rows) → list_all (are_below (length found)) rows ≡ true
    → column ((dict ++ numbers) ++ to_le_bytes w32 (length dict)) t current_version n
    ≡ Some (cut_content found (term_cell found) (c, rows))
unfolding column term_column
term_column-read dict numbers t n found c rows has short is read below =
    rw (has, parts-w32 dict numbers short, is, read, below) refl

-- what is known of terms and the ids of texts
pub record KnownTerms (ts : List (List ℕ)) : Type 0 where
  pub read : terms (dictionary_bytes (ordered ts)) ≡ Some (ordered ts)
  pub order : AreInOrder (ordered ts)
  pub given : TermsAreThoseGiven
  pub long : length (dictionary_bytes (ordered ts)) ≡ dictionary_length (ordered ts)
  pub short : dictionary_length (ordered ts) < 2 ^ 32

texts-content : (sorts : Bool) (ds docs ids : List ℕ) (ts : List (List ℕ)) → KnownTerms ts
    → are_below (length ts) ids ≡ true → (rows : List (List ℕ))
    → rows ≡ ord_rows sorts ds (zip docs (map (ord_by (ordinals ts)) ids))
    → cut_content (ordered ts) (term_cell (ordered ts))
    (record { cardinality = tightest_of (map length rows); of_rows = map length rows }, rows)
    ≡ text_content sorts ds docs ts ids
unfolding cell_rows ord_rows
texts-content sorts ds docs ids ts known below rows e =
    let found = ordered ts in
    let ords = map (ord_by (ordinals ts)) ids in
    let picked = picked_rows ds (zip docs ords) in
    let each = picked-below (length found) ds docs ords (ords-below ts ids known.given below) in
    let cells : map (map (term_cell found)) rows ≡ map (cells_in_order sorts) (picked_rows ds (text_cells ts docs ids)) =
    ap (map (map (term_cell found))) e ∙ rows-cells sorts found picked known.order each
    ∙ ap (map (cells_in_order sorts)) (sym (picked-map (term_cell found) ds docs ords)
    ∙ ap (λ r. picked_rows ds (zip docs r)) (cells-same ts ids known.given below)) in
    let tight : tightest_of (map length rows) ≡ tightest (map (cells_in_order sorts) (picked_rows ds (text_cells ts docs ids))) =
    ap tightest_of (sym (lengths-map (term_cell found) rows))
    ∙ sym (tightest-counts (map (map (term_cell found)) rows)) ∙ ap tightest cells in
    λ i. record { cardinality = tight i; terms = found; rows = cells i }

length-ord_rows : (sorts : Bool) (ds : List ℕ) (ps : List (ℕ × ℕ)) → length (ord_rows sorts ds ps) ≡ length ds
unfolding ord_rows
length-ord_rows sorts ds ps = length-map (picked_rows ds ps) (numbers_in_order sorts) ∙ length-picked ds ps

below-ord_rows : (sorts : Bool) (m : ℕ) (ds docs xs : List ℕ) → are_below m xs ≡ true
    → list_all (are_below m) (ord_rows sorts ds (zip docs xs)) ≡ true
unfolding ord_rows
below-ord_rows sorts m ds docs xs e = rows-below sorts m (picked_rows ds (zip docs xs)) (picked-below m ds docs xs e)

text-read : (t : ColumnType) (sorts : Bool) (ds docs ids numbers : List ℕ) (ts : List (List ℕ)) → KnownTerms ts
    → are_below (length ts) ids ≡ true → has_terms t ≡ true → (rows : List (List ℕ))
    → rows ≡ ord_rows sorts ds (zip docs (map (ord_by (ordinals ts)) ids))
    → number_rows numbers t current_version (length (map length rows))
    ≡ Some (
      record { cardinality = tightest_of (map length rows); of_rows = map length rows },
      cut (map length rows) (joined_lists rows),
    )
    → column ((dictionary_bytes (ordered ts) ++ numbers) ++ to_le_bytes w32 (dictionary_length (ordered ts))) t current_version
    (length ds) ≡ Some (text_content sorts ds docs ts ids)
text-read t sorts ds docs ids numbers ts known below has rows e read =
    let dict = dictionary_bytes (ordered ts) in
    let found = ordered ts in
    let c : Counts = record { cardinality = tightest_of (map length rows); of_rows = map length rows } in
    let long : length (map length rows) ≡ length ds =
    length-map rows length ∙ ap length e
    ∙ length-ord_rows sorts ds (zip docs (map (ord_by (ordinals ts)) ids)) in
    let plain : number_rows numbers t current_version (length ds) ≡ Some (c, rows) =
    ap (number_rows numbers t current_version) (sym long) ∙ read ∙ ap (λ r. Some (c, r)) (cut-joined rows) in
    let each : list_all (are_below (length found)) rows ≡ true =
    ap (list_all (are_below (length found))) e
    ∙ below-ord_rows sorts (length found) ds docs (map (ord_by (ordinals ts)) ids)
    (ords-below ts ids known.given below) in
    ap (λ k. column ((dict ++ numbers) ++ to_le_bytes w32 k) t current_version (length ds)) (sym known.long)
    ∙ term_column-read dict numbers t (length ds) found c rows has (omega (arith, known.long, known.short)) known.read plain each
    ∙ ap Some (texts-content sorts ds docs ids ts known below rows e)

-- a type of terms stores any numbers
pub stores-all : (xs : List ℕ) (p : ℕ → Bool) → ((x : ℕ) → p x ≡ true) → list_all p xs ≡ true
stores-all [] p h = refl
stores-all (x ∷ xs) p h = and_from (p x) (list_all p xs) (h x) (stores-all xs p h)

-- a type of terms stores any numbers of 64 bits
pub stores-terms : (t : ColumnType) (xs : List ℕ) → has_terms t ≡ true → Stores64 t xs
stores-terms types.str xs e = record { list = λ bytes. refl; images = stores-all xs (is_stored types.str) (λ x. refl) }
stores-terms types.bytes xs e = record { list = λ bytes. refl; images = stores-all xs (is_stored types.bytes) (λ x. refl) }
stores-terms types.i64 xs e = absurd (cc)
stores-terms types.u64 xs e = absurd (cc)
stores-terms types.bool xs e = absurd (cc)
stores-terms types.ip xs e = absurd (cc)
stores-terms types.datetime xs e = absurd (cc)

-- ---- what calls leave

-- where a test before the first byte fails, what is written within it is written
pub terms-written : (old new : SeenSink) (result : Result (Unit {0}) ColumnarError) (bytes : List ℕ) (b : Bool)
    → b ≡ false → SerializesWithin b old new result bytes → Serializes old new result bytes
terms-written old new result bytes true e h = absurd (cc)
terms-written old new result bytes false e h = h

pub text-written : (old mid new : SeenSink) (done : Unit {0}) (result : Result (Unit {0}) ColumnarError)
    (t : ColumnType) (sorts : Bool) (ds docs ids : List ℕ) (ts : List (List ℕ)) → KnownTerms ts
    → are_below (length ts) ids ≡ true → has_terms t ≡ true
    → Serializes old mid (Ok done) (dictionary_bytes (ordered ts)) → (rows : List (List ℕ))
    → rows ≡ ord_rows sorts ds (zip docs (map (ord_by (ordinals ts)) ids))
    → SerializesBehindTerms mid new result t (map length rows) (joined_lists rows) (dictionary_length (ordered ts))
    → SerializesColumn old new result t (length ds) (text_content sorts ds docs ts ids)
text-written old mid new done result t sorts ds docs ids ts known below has front rows e s = record {
  bytes = (dictionary_bytes (ordered ts) ++ s.bytes) ++ to_le_bytes w32 (dictionary_length (ordered ts));
  again = on_ok-map result (text-read t sorts ds docs ids s.bytes ts known below has rows e) s.again;
  written =
      subst (Serializes old new result) (sym
      (append_assoc (dictionary_bytes (ordered ts)) s.bytes (to_le_bytes w32 (dictionary_length (ordered ts)))))
      (serializes-then old mid new done result (dictionary_bytes (ordered ts))
      (s.bytes ++ to_le_bytes w32 (dictionary_length (ordered ts))) front s.written);
}

-- of differing terms that aren't too long all is known that their column needs
pub known-terms : (ts : List (List ℕ)) → OrdinalsAreInOrder → DictionariesAreReadBack → TermsAreThoseGiven
    → IsDistinct bytes_eq ts → is_too_long ts ≡ false → KnownTerms ts
known-terms ts orders back given differ fits =
    let w = written ts given back fits in
    record {
      read = w.read;
      order = in-order (dictionary_bytes (ordered ts)) (ordered ts) orders w.read;
      given = given;
      long = w.long;
      short = w.short;
    }

map-more : (f : ℕ → ℕ) (xs : List ℕ) (x : ℕ) → map f (xs ++ x ∷ []) ≡ map f xs ++ f x ∷ []
map-more f [] x = refl
map-more f (y ∷ xs) x = ap (λ r. f y ∷ r) (map-more f xs x)

-- one id more
pub ords-next : (mapping ids old new : List ℕ) (i id v : ℕ) → old ≡ map (ord_by mapping) (take i ids)
    → i < length ids → id ≡ get_or ids i 0 → slice_get mapping id ≡ Some v → new ≡ old ++ v ∷ []
    → new ≡ map (ord_by mapping) (take (i + 1) ids)
ords-next mapping ids old new i id v e low is found f =
    f ∙ (λ j. e j ++ sym (get_or_from_slice_get mapping id v 0 found) j ∷ []) ∙ sym (map-more (ord_by mapping) (take i ids) id)
    ∙ ap (λ k. map (ord_by mapping) (take i ids ++ k ∷ [])) is ∙ ap (map (ord_by mapping)) (sym (take_more ids i 0 low))

-- an id at any place is below the number of terms
pub known-at : (m : ℕ) (ids : List ℕ) (i : ℕ) → are_below m ids ≡ true → i < length ids → get_or ids i 0 < m
known-at m [] i e h = absurd (omega arith)
known-at m (x ∷ xs) zero e h = is_below x m (and_parts (nat_lt x m) (are_below m xs) e).0
known-at m (x ∷ xs) (suc i) e h = known-at m xs i (and_parts (nat_lt x m) (are_below m xs) e).1 (omega arith)

-- a dictionary, then the ordinals' rows with its length, are written as the column of texts
pub text-written-as : (old mid new : SeenSink) (done : Unit {0}) (result : Result (Unit {0}) ColumnarError)
    (t : ColumnType) (sorts : Bool) (ds docs ids ords : List ℕ) (ts : List (List ℕ)) (len : ℕ) → KnownTerms ts
    → are_below (length ts) ids ≡ true → has_terms t ≡ true → len ≡ dictionary_length (ordered ts)
    → ords ≡ map (ord_by (ordinals ts)) ids → Serializes old mid (Ok done) (dictionary_bytes (ordered ts))
    → ((u : ColumnType) → Stores64 u (joined_lists (ord_rows sorts ds (zip docs ords)))
    → SerializesBehindTerms mid new result u (map length (ord_rows sorts ds (zip docs ords)))
    (joined_lists (ord_rows sorts ds (zip docs ords))) len)
    → SerializesColumn old new result t (length ds) (text_content sorts ds docs ts ids)
text-written-as old mid new done result t sorts ds docs ids ords ts len known below has count e front s =
    let rows = ord_rows sorts ds (zip docs ords) in
    text-written old mid new done result t sorts ds docs ids ts known below has front rows (ap (λ r. ord_rows sorts ds (zip docs r)) e)
    (subst (SerializesBehindTerms mid new result t (map length rows) (joined_lists rows)) count
    (s t (stores-terms t (joined_lists rows) has)))

-- counted numbers and four bytes of a length are what is written behind a dictionary
pub behind-written : (old mid new : SeenSink) (done : Unit {0}) (result : Result (Unit {0}) ColumnarError)
    (t : ColumnType) (cs xs last : List ℕ) (len : ℕ) → last ≡ to_le_bytes w32 len
    → SerializesCounted old mid (Ok done) t cs xs → Serializes mid new result last
    → SerializesBehindTerms old new result t cs xs len
behind-written old mid new done result t cs xs last len e s end = record {
  bytes = s.bytes;
  again = on_ok-always result s.again;
  written = serializes-then old mid new done result s.bytes (to_le_bytes w32 len) s.written (subst (Serializes mid new result) e end);
}
