-- Merged values are a column of the picked rows.
use Rattle.std.proofs.Common.{◌≡◌, ℕ, zero, suc, ◌+◌, ◌<◌, ◌≤◌, ◌==◌, ◌&&◌, nat_eq, Bool, true, false, List, [], ◌∷◌, length, map, take, drop, sum, get_or, replicate, slice_get, unwrap_or, option_map, nat_lt, Option, Some, refl, sym, ap, ap₂, ◌∙◌, arith}
use Rattle.std.specs.List.{list_all, flat_map, range_with_len, enumerate_from}
use Rattle.std.specs.Cmp.Lexicographic.{pointwise}
use Rattle.std.proofs.lemmas.Bool.{and_parts, and_from, eqb-true, lt-ltb}
use Rattle.std.proofs.lemmas.List.{length-append, length-take-le, length-drop, drop-drop}
use Rattle.std.proofs.lemmas.List.Folds.{list_all-append, sum_by-replicate}
use Rattle.std.proofs.lemmas.List.Sums.{sum_by-cons}
use Rattle.std.proofs.lemmas.Option.{none-some}
use Rattle.col_common.specs.Reading.{only_if}
use Rattle.col_model.specs.Dictionary.{cut}
use Rattle.col_model.specs.Index.{Counts, Shape, empty_shape, full_shape, optional_shape, multivalued_shape, counts_over}
use Rattle.col_model.specs.Order.{Order, stack, shuffle, has_row, picks}
use Rattle.col_model.specs.Positions.{count_in, picked_counts}
use Rattle.col_model.specs.U64List.{joined_lists}
use Rattle.col_model.proofs.MergedSound.{chosen-is}
use Rattle.col_order.specs.Orders.{counts_of, picks_of}
use Rattle.col_column.specs.Columns.{row_count, counts_by, IsCounted, rows_by, row_at}
use Rattle.col_column.proofs.RowLemmas.{row_at-cut, row-empty, single, one, end-within}
use Rattle.col_model.proofs.CutLaws.{cut-joined}
use Rattle.col_merge_values.proofs.RunLemmas.{row-within}
use Rattle.col_merge_values.specs.Laws.{MergedValuesAreRows}
use Rattle.col_merge_values.specs.Merges.{SegmentColumns, AreColumns, FitsShape, segment_shape, segment_values, picked_row, merged_rows, merged_values, values_of}

-- ---- rows, cut from their values

-- how many items they have
pub length-joined : {T : Type 0} (xss : List (List T)) → length (joined_lists xss) ≡ sum (map length xss)
length-joined [] = refl
length-joined (xs ∷ xss) =
    length-append xs (joined_lists xss) ∙ ap (λ n. length xs + n) (length-joined xss)
    ∙ sym (sum_by-cons (λ k. k) (length xs) (map length xss))

-- ---- a row has as many values as its shape counts

cut-length : {T : Type 0} (cs : List ℕ) (xs : List T) (d : ℕ) → sum cs ≡ length xs → length (row_at (cut cs xs) d) ≡ get_or cs d 0
cut-length cs xs d all =
    let within = end-within cs d in
    let left = length-drop (sum (take d cs)) xs in
    ap length (row_at-cut cs xs d) ∙ length-take-le (get_or cs d 0) (drop (sum (take d cs)) xs) (omega arith)

one-length : {T : Type 0} (xs : List T) (d : ℕ) → d < length xs → length (one (slice_get xs d)) ≡ 1
one-length [] d h = absurd (omega arith)
one-length (x ∷ xs) zero h = refl
one-length (x ∷ xs) (suc d) h = one-length xs d (omega arith)

-- a row has as many values as its shape counts there
pub row-length : {T : Type 0} (n : ℕ) (s : Shape) (xs : List T) (d : ℕ) → FitsShape n s xs → d < n
    → length (row_at (rows_by s xs) d) ≡ count_in s d
unfolding rows_by
row-length n (empty_shape m) xs d is h = ap length (row-empty m xs d)
row-length n full_shape xs d is h = ap length (single xs d) ∙ one-length xs d (let e = is.rows in omega arith)
row-length n (optional_shape cs) xs d is h = cut-length cs xs d is.counted
row-length n (multivalued_shape cs) xs d is h = cut-length cs xs d is.counted

-- ---- picked rows

module _ {T : Type 0} (c : SegmentColumns T) (counts : List ℕ) (are : AreColumns counts c) where
  -- a picked row has as many values as are counted
  pub picked-length : (p : ℕ × ℕ) → has_row counts p ≡ true → length (picked_row c p) ≡ count_in (segment_shape c p.0) p.1
  picked-length p h =
      let within = row-within counts p h in
      row-length (get_or counts p.0 0) (segment_shape c p.0) (segment_values c p.0) p.1 (are.each p.0 within.0) within.1

  -- so have all
  pub picked-lengths : (ps : List (ℕ × ℕ)) → list_all (has_row counts) ps ≡ true → map length (merged_rows c ps) ≡ picked_counts c.shapes ps
  unfolding picked_counts
  picked-lengths [] all = refl
  picked-lengths (p ∷ ps) all =
      let parts = and_parts (has_row counts p) (list_all (has_row counts) ps) all in
      ap₂ (λ n ns. n ∷ ns) (picked-length p parts.0) (picked-lengths ps parts.1)

  -- the merged values, cut by the counts of the picked rows, are these rows
  pub cut-merged : (ps : List (ℕ × ℕ)) → list_all (has_row counts) ps ≡ true
      → cut (picked_counts c.shapes ps) (merged_values c ps) ≡ merged_rows c ps
  unfolding merged_values
  cut-merged ps all = ap (λ cs. cut cs (joined_lists (merged_rows c ps))) (sym (picked-lengths ps all)) ∙ cut-joined (merged_rows c ps)

  -- and there are as many as are counted
  pub length-merged : (ps : List (ℕ × ℕ)) → list_all (has_row counts) ps ≡ true
      → length (merged_values c ps) ≡ sum (picked_counts c.shapes ps)
  unfolding merged_values
  length-merged ps all = length-joined (merged_rows c ps) ∙ ap sum (picked-lengths ps all)

-- ---- the rows of an order are there

-- what a test lets through
pub only_if-true : {A : Type 0} (t : Bool) (x y : A) → only_if t x ≡ Some y → t ≡ true
only_if-true true x y e = refl
only_if-true false x y e = absurd (none-some y e)

-- the first item behind others
pub slice_get-first : {A : Type 0} (xs : List A) (k : ℕ) (y : A) (ys : List A) → drop k xs ≡ y ∷ ys → slice_get xs k ≡ Some y
slice_get-first [] zero y ys e = absurd (omega (arith, ap length e))
slice_get-first [] (suc k) y ys e = absurd (omega (arith, ap length e))
slice_get-first (x ∷ xs) zero y ys e = ap (λ zs. slice_get zs 0) e
slice_get-first (x ∷ xs) (suc k) y ys e = slice_get-first xs k y ys e

-- rows of a segment
rows-there : (counts : List ℕ) (k a n m : ℕ) → slice_get counts k ≡ Some m → a + n ≤ m
    → list_all (has_row counts) (map (λ r. (k, r)) (range_with_len a n)) ≡ true
rows-there counts k a zero m e h = refl
rows-there counts k a (suc n) m e h =
    and_from _ _ (ap (λ o. unwrap_or (option_map (λ n. nat_lt a n) o) false) e ∙ lt-ltb a m (omega arith))
    (rows-there counts k (a + 1) n m e (omega arith))

-- rows of all segments from one on
all-there : (counts : List ℕ) (k : ℕ) (ns : List ℕ) → drop k counts ≡ ns
    → list_all (has_row counts) (flat_map (λ p. map (λ r. (p.0, r)) (range_with_len 0 p.1)) (enumerate_from k ns))
    ≡ true
all-there counts k [] e = refl
all-there counts k (n ∷ ns) e =
    let here : slice_get counts k ≡ Some n = slice_get-first counts k n ns e in
    let later : drop (k + 1) counts ≡ ns = sym (drop-drop 1 k counts) ∙ ap (λ ys. drop 1 ys) e in
    list_all-append (has_row counts) (map (λ r. (k, r)) (range_with_len 0 n)) _
    ∙ and_from _ _ (rows-there counts k 0 n n here (omega arith)) (all-there counts (k + 1) ns later)

-- the rows that an order picks
pub picks-there : (order : Order) → picks order (counts_of order) ≡ Some (picks_of order)
    → list_all (has_row (counts_of order)) (picks_of order) ≡ true
unfolding picks
picks-there (stack counts) e = all-there counts 0 counts refl
picks-there (shuffle counts addresses) e =
    (and_parts (pointwise nat_eq counts counts) (list_all (has_row counts) addresses) (only_if-true
    (pointwise nat_eq counts counts && list_all (has_row counts) addresses) addresses addresses e)).1

-- ---- a merged column

-- a shape that counts rows counts so many values in each
record CountsList (n : ℕ) (s : Shape) (cs : List ℕ) (m : ℕ) : Type 0 where
  num_rows : row_count s m ≡ n
  counted : IsCounted s m
  counts : counts_by s m ≡ cs

counted-as : (n : ℕ) (s : Shape) (counts : Counts) (cs : List ℕ) (m : ℕ) → counts_over n s ≡ Some counts
    → counts.of_rows ≡ cs → m ≡ sum cs → CountsList n s cs m
counted-as n (empty_shape k) counts cs m e f g =
    let same : k ≡ n = eqb-true k n (only_if-true (k == n) _ counts e) in
    let zeros : replicate n 0 ≡ cs = ap (λ c. c.of_rows) (chosen-is (k == n) _ counts e) ∙ f in
    let none : sum (replicate n 0) ≡ 0 = sum_by-replicate (λ x. x) n 0 ∙ omega arith in
    record { num_rows = same; counted = g ∙ sym (ap sum zeros) ∙ none; counts = ap (λ i. replicate i 0) same ∙ zeros }
counted-as n full_shape counts cs m e f g =
    let ones : replicate n 1 ≡ cs = ap (λ (o : Option Counts). (unwrap_or o counts).of_rows) e ∙ f in
    let all : sum (replicate n 1) ≡ n = sum_by-replicate (λ x. x) n 1 ∙ omega arith in
    let same : m ≡ n = g ∙ sym (ap sum ones) ∙ all in
    record { num_rows = same; counted = tt; counts = ap (λ i. replicate i 1) same ∙ ones }
counted-as n (optional_shape ks) counts cs m e f g =
    let own : ks ≡ cs = ap (λ c. c.of_rows) (chosen-is (length ks == n) _ counts e) ∙ f in
    record { num_rows = eqb-true (length ks) n (only_if-true (length ks == n) _ counts e); counted = ap sum own ∙ sym g; counts = own }
counted-as n (multivalued_shape ks) counts cs m e f g =
    let own : ks ≡ cs = ap (λ c. c.of_rows) (chosen-is (length ks == n) _ counts e) ∙ f in
    record { num_rows = eqb-true (length ks) n (only_if-true (length ks == n) _ counts e); counted = ap sum own ∙ sym g; counts = own }

-- merged values are a column of the picked rows
pub merged-rows : (T : Type 0) → MergedValuesAreRows T
unfolding rows_by
merged-rows T m s counts is ordered counted =
    let ps = picks_of m.order in
    let all = picks-there m.order ordered in
    let many = length-merged m.columns (counts_of m.order) is ps all in
    let list = counted-as (length ps) s counts (picked_counts m.columns.shapes ps) (length (values_of m)) counted.0 counted.1 many in
    record {
      num_rows = list.num_rows;
      counted = list.counted;
      rows = ap (λ cs. cut cs (values_of m)) list.counts ∙ cut-merged m.columns (counts_of m.order) is ps all;
    }
