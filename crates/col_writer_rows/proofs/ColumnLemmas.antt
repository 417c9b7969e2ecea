-- Bytes of counted numbers stand for columns of rows.
use Rattle.std.proofs.Common.{◌≡◌, ℕ, ◌^◌, List, [], ◌∷◌, length, map, filter, Bool, true, false, cond, Some, Result, refl, sym, ap, ◌∙◌, subst}
use Rattle.std.specs.Prelude.{nat_le, ◌==◌, IfOk}
use Rattle.std.specs.List.{list_all, zip, range_with_len}
use Rattle.std.proofs.lemmas.Bool.{and_parts, and_from}
use Rattle.std.proofs.lemmas.List.{map-id, length-map}
use Rattle.std.proofs.lemmas.List.Folds.{list_all-append}
use Rattle.col_common.specs.Outside.{SeenSink}
use Rattle.col_common.specs.Reading.{◌>>=◌}
use Rattle.col_common.specs.declared.error.ColumnarError.{ColumnarError}
use Rattle.col_common.proofs.OnOkLemmas.{on_ok-map}
use Rattle.col_model.specs.AddressList.{least_codes}
use Rattle.col_common.specs.Ascending.{are_below, is_never_falling}
use Rattle.col_model.specs.Column.{number_rows, number_cell, is_stored, term_column, cut_content, column}
use Rattle.col_model.specs.ColumnType.{ColumnType, has_terms}
use Rattle.col_model.specs.Dictionary.{cut}
use Rattle.col_model.specs.Limits.{tightest}
use Rattle.col_model.specs.U64List.{joined_lists}
use Rattle.col_model.specs.Version.{current_version}
use Rattle.col_column.specs.Counted.{tightest_of}
use Rattle.col_column.proofs.TightestLemmas.{tightest-counts}
use Rattle.col_column.specs.Written.{Stores64}
use Rattle.col_model.proofs.CutLaws.{lengths-map, cut-joined}
use Rattle.col_writer_rows.specs.Counted.{counts_of_rows, SerializesCounted, SerializesColumn}
use Rattle.col_writer_rows.specs.Rows.{values_at, picked_rows, numbers_in_order, ord_rows, cell_rows, number_cells, number_content}
use Rattle.col_writer_rows.proofs.RowLemmas.{joined-zip, lengths-zip}
use Rattle.col_writer_rows.proofs.SortLemmas.{ordered-rows}

-- ---- rows of values that are mapped

values-map : {X Y : Type 0} (f : X → Y) (docs : List ℕ) (xs : List X) (d : ℕ)
    → values_at (zip docs (map f xs)) d ≡ map f (values_at (zip docs xs) d)
values-map f [] xs d = refl
values-map f (e ∷ docs) [] d = refl
values-map f (e ∷ docs) (x ∷ xs) d =
    elim (e == d) as (λ b. map (λ p. p.1) (cond b ((e, f x) ∷ filter (λ p. p.0 == d) (zip docs (map f xs)))
    (filter (λ p. p.0 == d) (zip docs (map f xs)))) ≡ map f (map (λ p. p.1)
    (cond b ((e, x) ∷ filter (λ p. p.0 == d) (zip docs xs)) (filter (λ p. p.0 == d) (zip docs xs))))) [
      | true ↦ ap (λ r. f x ∷ r) (values-map f docs xs d)
      | false ↦ values-map f docs xs d
    ]

-- turning all values and then picking rows is turning the values of the picked rows
pub picked-map : {X Y : Type 0} (f : X → Y) (ds docs : List ℕ) (xs : List X)
    → picked_rows ds (zip docs (map f xs)) ≡ map (map f) (picked_rows ds (zip docs xs))
unfolding picked_rows
picked-map f [] docs xs = refl
picked-map f (d ∷ ds) docs xs = λ i. values-map f docs xs d i ∷ picked-map f ds docs xs i

-- a test that all values pass, those of each document pass
pub all-values : {X : Type 0} (p : X → Bool) (docs : List ℕ) (xs : List X) (d : ℕ) → list_all p xs ≡ true
    → list_all p (values_at (zip docs xs) d) ≡ true
all-values p [] xs d e = refl
all-values p (c ∷ docs) [] d e = refl
all-values p (c ∷ docs) (x ∷ xs) d e =
    let parts = and_parts (p x) (list_all p xs) e in
    let rest = all-values p docs xs d parts.1 in
    elim (c == d) as (λ b. list_all p (map (λ q. q.1) (cond b ((c, x) ∷ filter (λ q. q.0 == d) (zip docs xs))
    (filter (λ q. q.0 == d) (zip docs xs)))) ≡ true) [
      | true ↦ and_from (p x) (list_all p (values_at (zip docs xs) d)) parts.0 rest
      | false ↦ rest
    ]

-- what holds of all values holds of those of the rows
pub all-picked : {X : Type 0} (p : X → Bool) (ds docs : List ℕ) (xs : List X) → list_all p xs ≡ true
    → list_all p (joined_lists (picked_rows ds (zip docs xs))) ≡ true
unfolding picked_rows
all-picked p [] docs xs e = refl
all-picked p (d ∷ ds) docs xs e =
    list_all-append p (values_at (zip docs xs) d) (joined_lists (picked_rows ds (zip docs xs)))
    ∙ and_from (list_all p (values_at (zip docs xs) d)) (list_all p (joined_lists (picked_rows ds (zip docs xs))))
    (all-values p docs xs d e) (all-picked p ds docs xs e)

-- there is one row for each document that is picked
pub length-picked : {X : Type 0} (ds : List ℕ) (ps : List (ℕ × X)) → length (picked_rows ds ps) ≡ length ds
unfolding picked_rows
length-picked ds ps = length-map ds (values_at ps)

-- ---- the tightest cardinality

-- ---- columns of numbers

pub number_rows-column : (bytes : List ℕ) (t : ColumnType) (n : ℕ) → has_terms t ≡ false
    → column bytes t current_version n ≡ (number_rows bytes t current_version n >>= λ p. Some (cut_content [] (number_cell t) p))
unfolding column
number_rows-column bytes t n e =
    ap (λ b. cond b (term_column bytes t current_version n)
    (number_rows bytes t current_version n >>= λ p. Some (cut_content [] (number_cell t) p))) e

number-content : (t : ColumnType) (ds docs xs : List ℕ)
    → cut_content [] (number_cell t) (
      record {
        cardinality = tightest_of (map length (picked_rows ds (zip docs xs)));
        of_rows = map length (picked_rows ds (zip docs xs));
      },
      picked_rows ds (zip docs xs),
    )
    ≡ number_content t ds docs xs
unfolding cell_rows
number-content t ds docs xs =
    let rows = picked_rows ds (zip docs xs) in
    let cells : map (map (number_cell t)) rows ≡ cell_rows false ds (number_cells t docs xs) =
    sym (picked-map (number_cell t) ds docs xs) ∙ sym (map-id (picked_rows ds (number_cells t docs xs))) in
    let tight : tightest_of (map length rows) ≡ tightest (cell_rows false ds (number_cells t docs xs)) =
    ap tightest_of (sym (lengths-map (number_cell t) rows)) ∙ sym (tightest-counts (map (map (number_cell t)) rows)) ∙ ap tightest cells in
    λ i. record { cardinality = tight i; terms = []; rows = cells i }

numbers-read : (bytes : List ℕ) (t : ColumnType) (n : ℕ) (ds docs xs cs zs : List ℕ) → has_terms t ≡ false
    → n ≡ length ds → cs ≡ map length (picked_rows ds (zip docs xs))
    → zs ≡ joined_lists (picked_rows ds (zip docs xs))
    → number_rows bytes t current_version (length cs) ≡ Some (record { cardinality = tightest_of cs; of_rows = cs }, cut cs zs)
    → column bytes t current_version n ≡ Some (number_content t ds docs xs)
numbers-read bytes t n ds docs xs cs zs none count counts values read =
    let rows = picked_rows ds (zip docs xs) in
    let long : n ≡ length cs = count ∙ sym (length-picked ds (zip docs xs)) ∙ sym (length-map rows length) ∙ ap length (sym counts) in
    let apart : cut cs zs ≡ rows = (λ i. cut (counts i) (values i)) ∙ cut-joined rows in
    number_rows-column bytes t n none
    ∙ ap (λ m. number_rows bytes t current_version m >>= λ p. Some (cut_content [] (number_cell t) p)) long
    ∙ ap (λ o. o >>= λ p. Some (cut_content [] (number_cell t) p)) read
    ∙ (λ i. Some (cut_content [] (number_cell t) (record { cardinality = tightest_of (counts i); of_rows = counts i }, apart i)))
    ∙ ap Some (number-content t ds docs xs)

-- picked rows of numbers that are written with their counts make the column of n rows
pub column-written : (old new : SeenSink) (result : Result (Unit {0}) ColumnarError) (t : ColumnType) (n : ℕ)
    (ds docs xs cs zs : List ℕ) → has_terms t ≡ false → n ≡ length ds
    → cs ≡ map length (picked_rows ds (zip docs xs)) → zs ≡ joined_lists (picked_rows ds (zip docs xs))
    → SerializesCounted old new result t cs zs → SerializesColumn old new result t n (number_content t ds docs xs)
column-written old new result t n ds docs xs cs zs none count counts values s = record {
  bytes = s.bytes;
  again = on_ok-map result (numbers-read s.bytes t n ds docs xs cs zs none count counts values) s.again;
  written = s.written;
}

-- numbers of a type stay so in other rows
pub stores-picked : (t : ColumnType) (ds docs xs : List ℕ) → Stores64 t xs → Stores64 t (joined_lists (picked_rows ds (zip docs xs)))
stores-picked t ds docs xs s = record { list = s.list; images = all-picked (is_stored t) ds docs xs s.images }

-- documents at their own rows
pub own-counts : (n : ℕ) (ds docs xs : List ℕ) → ds ≡ range_with_len 0 n → length docs ≡ length xs
    → counts_of_rows n docs ≡ map length (picked_rows ds (zip docs xs))
unfolding counts_of_rows
own-counts n ds docs xs e beside =
    sym (lengths-zip (range_with_len 0 n) docs xs beside)
    ∙ ap (λ r. map length (picked_rows r (zip docs xs))) (sym e)

-- documents that never fall, picked in their order, give all values as they stand
pub own-values : (n : ℕ) (ds docs xs : List ℕ) → ds ≡ range_with_len 0 n → is_never_falling docs ≡ true
    → are_below n docs ≡ true → length docs ≡ length xs → xs ≡ joined_lists (picked_rows ds (zip docs xs))
own-values n ds docs xs e fall below beside =
    sym (joined-zip n docs xs fall below beside) ∙ ap (λ r. joined_lists (picked_rows r (zip docs xs))) (sym e)

-- a column of numbers at their own rows
pub own-written : (old new : SeenSink) (result : Result (Unit {0}) ColumnarError) (n : ℕ) (ds docs xs : List ℕ)
    → n ≡ length ds → ds ≡ range_with_len 0 n → is_never_falling docs ≡ true → are_below n docs ≡ true
    → length docs ≡ length xs
    → ((t : ColumnType) → Stores64 t xs → SerializesCounted old new result t (counts_of_rows n docs) xs)
    → (t : ColumnType) → has_terms t ≡ false → Stores64 t xs → SerializesColumn old new result t (length ds) (number_content t ds docs xs)
own-written old new result n ds docs xs count e fall below beside written t none stores =
    column-written old new result t (length ds) ds docs xs (counts_of_rows n docs) xs none refl
    (own-counts n ds docs xs e beside) (own-values n ds docs xs e fall below beside) (written t stores)

-- and at others
pub placed-written : (old new : SeenSink) (result : Result (Unit {0}) ColumnarError) (ds ls docs xs : List ℕ) → ls ≡ ds
    → ((t : ColumnType) → Stores64 t (joined_lists (picked_rows ls (zip docs xs)))
    → SerializesCounted old new result t (map length (picked_rows ls (zip docs xs)))
    (joined_lists (picked_rows ls (zip docs xs))))
    → (t : ColumnType) → has_terms t ≡ false → Stores64 t xs → SerializesColumn old new result t (length ds) (number_content t ds docs xs)
placed-written old new result ds ls docs xs e written t none stores =
    let same = ap (λ r. picked_rows r (zip docs xs)) e in
    column-written old new result t (length ds) ds docs xs (map length (picked_rows ls (zip docs xs)))
    (joined_lists (picked_rows ls (zip docs xs))) none refl (ap (map length) same) (ap joined_lists same)
    (written t (stores-picked t ls docs xs stores))

-- what is written of counts and values for any type that stores them is so of equal ones
pub counted-as : (old new : SeenSink) (result : Result (Unit {0}) ColumnarError) (cs ds xs ys : List ℕ) → cs ≡ ds
    → xs ≡ ys → ((t : ColumnType) → Stores64 t xs → SerializesCounted old new result t cs xs) → (t : ColumnType)
    → Stores64 t ys → SerializesCounted old new result t ds ys
counted-as old new result cs ds xs ys e f h =
    subst (λ zs. (t : ColumnType) → Stores64 t zs → SerializesCounted old new result t ds zs) f
    (subst (λ ks. (t : ColumnType) → Stores64 t xs → SerializesCounted old new result t ks xs) e h)

-- what is written of picked values whose rows are then put in order is so of rows in order
pub ordered-as : (old new : SeenSink) (result : Result (Unit {0}) ColumnarError) (sorts : Bool) (ds : List ℕ)
    (ps : List (ℕ × ℕ)) (cs xs : List ℕ) → cs ≡ map length (picked_rows ds ps) → xs ≡ joined_lists (picked_rows ds ps)
    → ((t : ColumnType) → Stores64 t (joined_lists (map (numbers_in_order sorts) (cut cs xs)))
    → SerializesCounted old new result t cs (joined_lists (map (numbers_in_order sorts) (cut cs xs))))
    → (t : ColumnType) → Stores64 t (joined_lists (ord_rows sorts ds ps))
    → SerializesCounted old new result t (map length (ord_rows sorts ds ps)) (joined_lists (ord_rows sorts ds ps))
ordered-as old new result sorts ds ps cs xs e f =
    let both = ordered-rows sorts ds ps cs xs _ e f refl in
    counted-as old new result _ _ _ _ both.0 both.1

-- what is written of counts and values under a type is so of equal ones
pub typed-as :
    (old new : SeenSink) (result : Result (Unit {0}) ColumnarError) (t : ColumnType) (cs ds xs ys : List ℕ)
    → cs ≡ ds → xs ≡ ys → SerializesCounted old new result t cs xs → SerializesCounted old new result t ds ys
typed-as old new result t cs ds xs ys e f h =
    subst (λ zs. SerializesCounted old new result t ds zs) f
    (subst (λ ks. SerializesCounted old new result t ks xs) e h)

-- an answer on the codes of some values is one on those of equal values
pub codes-as : {E : Type 0} (result : Result Bool E) (xs ys : List ℕ) → xs ≡ ys
    → IfOk result (λ b. b ≡ nat_le (2 ^ 32) (least_codes xs))
    → IfOk result (λ b. b ≡ nat_le (2 ^ 32) (least_codes ys))
codes-as result xs ys e h = subst (λ zs. IfOk result (λ b. b ≡ nat_le (2 ^ 32) (least_codes zs))) e h

-- numbers in the rows of other documents
pub ords-as :
    (old new : SeenSink) (result : Result (Unit {0}) ColumnarError) (sorts : Bool) (ls ds docs xs ys : List ℕ)
    → ls ≡ ds → xs ≡ ys → ((t : ColumnType) → Stores64 t (joined_lists (ord_rows sorts ls (zip docs xs)))
    → SerializesCounted old new result t (map length (ord_rows sorts ls (zip docs xs)))
    (joined_lists (ord_rows sorts ls (zip docs xs)))) → (t : ColumnType)
    → Stores64 t (joined_lists (ord_rows sorts ds (zip docs ys)))
    → SerializesCounted old new result t (map length (ord_rows sorts ds (zip docs ys)))
    (joined_lists (ord_rows sorts ds (zip docs ys)))
ords-as old new result sorts ls ds docs xs ys e f h =
    let P : List (List ℕ) → Type 0 = λ rows. (t : ColumnType) → Stores64 t (joined_lists rows)
    → SerializesCounted old new result t (map length rows) (joined_lists rows) in
    subst P (λ i. ord_rows sorts (e i) (zip docs (f i))) h
