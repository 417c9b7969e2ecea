-- Indexes that count the values of rows.
use Rattle.std.proofs.Common.{◌≡◌, ◌<◌, ◌≤◌, ℕ, zero, suc, ◌-◌, ◌^◌, List, [], ◌∷◌, length, map, sum, replicate, Bool, true, false, cond, Some, Result, Ok, Err, refl, sym, ap, ◌∙◌, subst, arith}
use Rattle.std.specs.Prelude.{nat_le, ◌==◌, OnOk, IfOk}
use Rattle.std.specs.List.{list_all}
use Rattle.std.proofs.lemmas.Bool.{and_from}
use Rattle.std.proofs.lemmas.List.{length-replicate, map-id}
use Rattle.std.proofs.lemmas.List.Folds.{sum_by-replicate}
use Rattle.std.proofs.lemmas.List.Sums.{sum_by-cons}
use Rattle.col_common.specs.Outside.{SeenSink}
use Rattle.col_common.specs.Serializing.{Serializes}
use Rattle.col_common.specs.declared.error.ColumnarError.{ColumnarError}
use Rattle.col_common.proofs.OnOkLemmas.{on_ok-map}
use Rattle.col_common.specs.Ascending.{is_rising, is_never_falling, are_below}
use Rattle.col_model.specs.Column.{number_rows}
use Rattle.col_model.specs.ColumnType.{ColumnType}
use Rattle.col_model.specs.Dictionary.{cut}
use Rattle.col_model.specs.Positions.{rows_with_value, starts_of}
use Rattle.col_model.specs.Table as tables
use Rattle.col_model.specs.Version.{current_version}
use Rattle.col_column.specs.CardinalityType.{Cardinality}
use Rattle.col_column.specs.CardinalityVariants.{Full, Optional, Multivalued}
use Rattle.col_column.specs.Versions.{cardinality_of}
use Rattle.col_column.proofs.RowsLaws.{rows_from, rows_with_value-from}
use Rattle.col_column.proofs.IndexedLaws.{counts-are_rows, counts-are_set_counts, counts-are_offsets, counts-are_offset_counts}
use Rattle.col_column.specs.Counted.{tightest_of}
use Rattle.col_column.specs.Spelling.{Index, full_index, optional_index, multivalued_index, index_shape}
use Rattle.col_column.proofs.CountedLemmas.{rows_from-some}
use Rattle.col_column.proofs.MergeLemmas.{all_ones}
use Rattle.col_column.specs.Columns.{row_count, counts_by, IsCounted, rows_by}
use Rattle.col_column.specs.Opened.{counted_rows}
use Rattle.col_column.specs.Written.{number_column_bytes, column_codecs, StandForRows, Stores64, SerializesRows}
use Rattle.col_writer_rows.specs.Counted.{counts_of_rows, CountsRows, SerializesCounted}
use Rattle.col_column.specs.IndexerWritten.{index_by}
use Rattle.col_writer_rows.proofs.RepeatedLemmas.{many-counted}
use Rattle.col_writer_rows.proofs.RowLemmas.{sum-counts}
use Rattle.col_writer_rows.proofs.ShapeLemmas.{counts-all, counts-rising, few-ones}
use Rattle.col_writer_rows.proofs.StartLemmas.{length-counts}

-- ---- rows of one value each

ones : (n : ℕ) → list_all (λ c. c == 1) (replicate n 1) ≡ true
ones zero = refl
ones (suc n) = ones n

sum-ones : (n : ℕ) → sum (replicate n 1) ≡ n
sum-ones n = sum_by-replicate (λ x. x) n 1 ∙ omega arith

ones-counted : (n : ℕ) → CountsRows (replicate n 1) full_index
ones-counted n = record {
  index = tt;
  limit = refl;
  rows = sum-ones n ∙ sym (length-replicate n 1);
  counts = ap (λ k. replicate k 1) (sum-ones n);
  cardinality =
      sym (ap (λ b. cond b tables.full
      (cond (list_all (λ c. nat_le c 1) (replicate n 1)) tables.optional tables.multivalued)) (ones n));
}

full-ones : (a b : Bool) → tables.full ≡ cond a tables.full (cond b tables.optional tables.multivalued) → a ≡ true
full-ones true b e = refl
full-ones false true e = cc
full-ones false false e = cc

optional-few : (a b : Bool) → tables.optional ≡ cond a tables.full (cond b tables.optional tables.multivalued) → b ≡ true
optional-few true b e = cc
optional-few false true e = refl
optional-few false false e = cc

multivalued-many : (a b : Bool) → tables.multivalued ≡ cond a tables.full (cond b tables.optional tables.multivalued) → b ≡ false
multivalued-many true b e = cc
multivalued-many false true e = cc
multivalued-many false false e = refl

-- counts that are all 1 have Full as their tightest cardinality
pub tight-full : (cs : List ℕ) → list_all (λ c. c == 1) cs ≡ true → tables.full ≡ tightest_of cs
tight-full cs e = sym (ap (λ a. cond a tables.full (cond (list_all (λ c. nat_le c 1) cs) tables.optional tables.multivalued)) e)

-- counts that are at most 1, and not all 1, have Optional as their tightest cardinality
pub tight-optional : (cs : List ℕ) → list_all (λ c. c == 1) cs ≡ false → list_all (λ c. nat_le c 1) cs ≡ true
    → tables.optional ≡ tightest_of cs
tight-optional cs e f = sym (λ i. cond (e i) tables.full (cond (f i) tables.optional tables.multivalued))

-- counts of which one is above 1 have Multivalued as their tightest cardinality
pub tight-multivalued : (cs : List ℕ) → list_all (λ c. c == 1) cs ≡ false → list_all (λ c. nat_le c 1) cs ≡ false
    → tables.multivalued ≡ tightest_of cs
tight-multivalued cs e f = sym (λ i. cond (e i) tables.full (cond (f i) tables.optional tables.multivalued))

-- counts whose tightest cardinality is Full
pub full-counted : (cs : List ℕ) (c : Cardinality) → c ≡ Full → cardinality_of c ≡ tightest_of cs → CountsRows cs full_index
full-counted cs c e f =
    let all = full-ones (list_all (λ c. c == 1) cs) (list_all (λ c. nat_le c 1) cs) (ap cardinality_of (sym e) ∙ f) in
    subst (λ ds. CountsRows ds full_index) (all_ones cs all) (ones-counted (length cs))

-- documents that rise and are all rows
pub full-docs : (n : ℕ) (docs : List ℕ) → is_rising docs ≡ true → are_below n docs ≡ true → length docs ≡ n
    → CountsRows (counts_of_rows n docs) full_index
full-docs n docs e below many = subst (λ cs. CountsRows cs full_index) (sym (counts-all n docs e below many)) (ones-counted n)

-- ---- rows that have values

few_rows : (a : ℕ) (cs : List ℕ) → length (rows_from a cs) ≤ sum cs
few_rows a [] = omega arith
few_rows a (zero ∷ cs) = omega (arith, few_rows (suc a) cs, sum_by-cons (λ x. x) 0 cs)
few_rows a (suc c ∷ cs) = omega (arith, ap length (rows_from-some a c cs), few_rows (suc a) cs, sum_by-cons (λ x. x) (suc c) cs)

-- where some row has more than one, there are fewer rows than values
fewer_rows : (a : ℕ) (cs : List ℕ) → list_all (λ c. nat_le c 1) cs ≡ false → length (rows_from a cs) < sum cs
fewer_rows a [] e = absurd (cc)
fewer_rows a (zero ∷ cs) e = omega (arith, fewer_rows (suc a) cs e, sum_by-cons (λ x. x) 0 cs)
fewer_rows a (suc zero ∷ cs) e = omega (arith, ap length (rows_from-some a 0 cs), fewer_rows (suc a) cs e, sum_by-cons (λ x. x) 1 cs)
fewer_rows a (suc (suc c) ∷ cs) e =
    omega
    (arith, ap length (rows_from-some a (suc c) cs), few_rows (suc a) cs, sum_by-cons (λ x. x) (suc (suc c)) cs)

within_limit : (cs : List ℕ) → sum cs < 2 ^ 32 → list_all (λ c. nat_le c 1) cs ≡ false
    → nat_le (2 ^ 32 - 1) (length (rows_with_value cs)) ≡ false
within_limit cs small many =
    let fewer = fewer_rows 0 cs many in
    let low : length (rows_with_value cs) < 2 ^ 32 - 1 = omega (arith, fewer, small, ap length (rows_with_value-from cs)) in
    grind (arith, low)

counted : (c : Cardinality) (cs : List ℕ) → (c ≡ Full → ⊥) → cardinality_of c ≡ tightest_of cs → length cs < 2 ^ 32
    → sum cs < 2 ^ 32 → CountsRows cs (index_by c (length cs) (rows_with_value cs) (starts_of cs))
counted Full cs some tight fits small = absurd (some refl)
counted Optional cs some tight fits small =
    let few = optional-few (list_all (λ c. c == 1) cs) (list_all (λ c. nat_le c 1) cs) tight in
    let same = counts-are_set_counts cs few in
    record {
      index = record { rows = counts-are_rows cs; fits = fits };
      limit = refl;
      rows = ap length same;
      counts = same;
      cardinality = tight;
    }
counted Multivalued cs some tight fits small =
    let many = multivalued-many (list_all (λ c. c == 1) cs) (list_all (λ c. nat_le c 1) cs) tight in
    let same = counts-are_offset_counts cs in
    record {
      index = record { offsets = counts-are_offsets cs small; fits = fits };
      limit = within_limit cs small many;
      rows = ap length same;
      counts = same;
      cardinality = tight;
    }

-- the index of counts
pub counts-indexed : (c : Cardinality) (n : ℕ) (cs rows starts : List ℕ) → (c ≡ Full → ⊥)
    → cardinality_of c ≡ tightest_of cs → n ≡ length cs → length cs < 2 ^ 32 → sum cs < 2 ^ 32
    → rows ≡ rows_with_value cs → starts ≡ starts_of cs → CountsRows cs (index_by c n rows starts)
counts-indexed c n cs rows starts some tight count fits small e f =
    let same : index_by c (length cs) (rows_with_value cs) (starts_of cs) ≡ index_by c n rows starts =
    λ i. index_by c (sym count i) (sym e i) (sym f i) in
    subst (CountsRows cs) same (counted c cs some tight fits small)

-- documents that never fall, of which one is there twice
pub repeated-indexed : (n : ℕ) (docs rows starts : List ℕ) → n < 2 ^ 32 → length docs < 2 ^ 32 → is_rising docs ≡ false
    → is_never_falling docs ≡ true → are_below n docs ≡ true → rows ≡ rows_with_value (counts_of_rows n docs)
    → starts ≡ starts_of (counts_of_rows n docs)
    → CountsRows (counts_of_rows n docs) (index_by Multivalued n rows starts)
repeated-indexed n docs rows starts fits few apart fall below r s =
    let many = many-counted n docs fall below apart in
    let long = length-counts n docs in
    counts-indexed Multivalued n (counts_of_rows n docs) rows starts (λ e. cc)
    (tight-multivalued (counts_of_rows n docs) many.0 many.1) (sym long) (omega (arith, long, fits))
    (omega (arith, sum-counts n docs fall below, few)) r s

-- documents that rise
pub rising-indexed : (n : ℕ) (docs : List ℕ) → n < 2 ^ 32 → is_rising docs ≡ true → is_never_falling docs ≡ true
    → are_below n docs ≡ true → (length docs ≡ n → ⊥)
    → CountsRows (counts_of_rows n docs) (optional_index (record { num_rows = n; rows = docs }))
rising-indexed n docs fits e fall below apart =
    let same = counts-rising n docs e below in
    let few = few-ones n docs e in
    let not_all : list_all (λ c. c == 1) (counts_of_rows n docs) ≡ false = by (list_all (λ c. c == 1) (counts_of_rows n docs)) refl in
    record {
      index = record { rows = and_from (is_rising docs) (are_below n docs) e below; fits = fits };
      limit = refl;
      rows = ap length same;
      counts = same;
      cardinality = sym ((λ i. cond (not_all i) tables.full (cond (few i) tables.optional tables.multivalued)));
    }
  where
    by : (b : Bool) → list_all (λ c. c == 1) (counts_of_rows n docs) ≡ b → b ≡ false
    by false h = refl
    by true h =
        let total : sum (counts_of_rows n docs) ≡ n = ap sum (sym (all_ones (counts_of_rows n docs) h))
        ∙ sum-ones (length (counts_of_rows n docs)) ∙ length-counts n docs in
        absurd (apart (sym (sum-counts n docs fall below) ∙ total))

-- an answer that can only be an index that counts the rows counts the rows
pub if_ok-is : {E : Type 0} (cs : List ℕ) (result : Result Index E) (i : Index) → IfOk result (λ r. r ≡ i)
    → CountsRows cs i → IfOk result (λ r. CountsRows cs r)
if_ok-is cs (Ok r) i e h = subst (CountsRows cs) (sym e) h
if_ok-is cs (Err e) i f h = tt

-- ---- what is written behind an index

-- an index that counts the rows has as many values as their counts sum up to
pub is_counted : (cs : List ℕ) (i : Index) (n : ℕ) → CountsRows cs i → n ≡ sum cs → IsCounted (index_shape i) n
is_counted cs full_index n h e = tt
is_counted cs (optional_index s) n h e = ap sum h.counts ∙ sym e
is_counted cs (multivalued_index o) n h e = ap sum h.counts ∙ sym e

rows_counted : (bytes cs xs : List ℕ) (t : ColumnType) (i : Index) → CountsRows cs i → length xs ≡ sum cs
    → number_rows bytes t current_version (row_count (index_shape i) (length xs)) ≡ Some (counted_rows (index_shape i) xs)
    → number_rows bytes t current_version (length cs) ≡ Some (record { cardinality = tightest_of cs; of_rows = cs }, cut cs xs)
unfolding rows_by
rows_counted bytes cs xs t i h e read =
    let long : row_count (index_shape i) (length xs) ≡ length cs = ap (row_count (index_shape i)) e ∙ h.rows in
    let counts : counts_by (index_shape i) (length xs) ≡ cs = ap (counts_by (index_shape i)) e ∙ h.counts in
    ap (number_rows bytes t current_version) (sym long) ∙ read
    ∙ (λ j. Some (record { cardinality = h.cardinality j; of_rows = counts j }, cut (counts j) xs))

-- values that are written behind an index of their counts are written with these counts
pub counted-written :
    (old new : SeenSink) (result : Result (Unit {0}) ColumnarError) (t : ColumnType) (cs xs : List ℕ) (i : Index)
    → CountsRows cs i → length xs ≡ sum cs → SerializesRows old new result t (index_shape i) xs
    → SerializesCounted old new result t cs xs
counted-written old new result t cs xs i h e s = record {
  bytes = s.bytes;
  again = on_ok-map result (rows_counted s.bytes cs xs t i h e) s.again;
  written = s.written;
}

-- the same of numbers of 64 bits, whose codes they are themselves
pub numbers-indexed : (old new : SeenSink) (result : Result (Unit {0}) ColumnarError) (w i : Index) (xs : List ℕ)
    → w ≡ i → Serializes old new result (number_column_bytes column_codecs w (map (λ n. n) xs))
    → OnOk result
    (StandForRows (number_column_bytes column_codecs w (map (λ n. n) xs)) (index_shape w) (map (λ n. n) xs))
    → (t : ColumnType) → Stores64 t xs → SerializesRows old new result t (index_shape i) xs
numbers-indexed old new result w i xs e written again t stores =
    let plain : Serializes old new result (number_column_bytes column_codecs i xs) =
    subst (Serializes old new result) (λ j. number_column_bytes column_codecs (e j) (map-id xs j)) written in
    let stand : OnOk result (StandForRows (number_column_bytes column_codecs i xs) (index_shape i) xs) =
    subst (OnOk result) (λ j. StandForRows (number_column_bytes column_codecs (e j) (map-id xs j))
    (index_shape (e j)) (map-id xs j)) again in
    record {
      bytes = number_column_bytes column_codecs i xs;
      again = on_ok-map result (λ h. h t stores) stand;
      written = plain;
    }
