-- Rows that have all no value, or one.
use Rattle.std.proofs.Common.{◌≡◌, ℕ, zero, suc, ◌+◌, ◌<◌, ◌≤◌, List, [], ◌∷◌, length, map, drop, replicate, slice_get, Option, Some, None, inl, refl, sym, ap, ◌∙◌, arith}
use Rattle.std.specs.List.{sum, range_with_len}
use Rattle.std.proofs.lemmas.List.Folds.{sum_by-replicate}
use Rattle.std.proofs.lemmas.List.FromFn.{length-range_with_len, get_or-range_with_len}
use Rattle.std.proofs.lemmas.Option.{slice_get-get_or, slice_get_past}
use Rattle.std.specs.Option.{IfSome}
use Rattle.col_model.specs.Index.{RowSet, set_counts}
use Rattle.col_model.specs.Positions.{rows_with_value, starts_after, starts_of}
use Rattle.col_index.specs.Sets.{AreRows}
use Rattle.col_index.specs.Walked.{IsHint32}
use Rattle.col_index.proofs.RowsLaws.{rows_from, rows_with_value-from}
use Rattle.col_index.proofs.SpreadLaws.{spread_starts}
use Rattle.col_index.proofs.CountLaws.{set_spread}
use Rattle.col_index.specs.Indexes.{shape_of}
use Rattle.col_index.specs.declared.column_index.ColumnIndex.{ColumnIndex}
use Rattle.col_indexer.specs.Counted.{counts_in, ends_behind}
use Rattle.col_indexer.proofs.CountedLemmas.{starts_after-ends}

-- so many rows with the same number of values
pub same_counts : (c a n : ℕ) → map (λ row. c) (range_with_len a n) ≡ replicate n c
same_counts c a zero = refl
same_counts c a (suc n) = ap (λ more. c ∷ more) (same_counts c (a + 1) n)

-- ---- no value

-- none has a value, from a row on
rows_from-zeros : (b n : ℕ) → rows_from b (replicate n 0) ≡ []
rows_from-zeros b zero = refl
rows_from-zeros b (suc n) = rows_from-zeros (suc b) n

-- none has a value
pub rows-zeros : (n : ℕ) → rows_with_value (map (λ row. 0) (range_with_len 0 n)) ≡ []
rows-zeros n = ap rows_with_value (same_counts 0 0 n) ∙ rows_with_value-from (replicate n 0) ∙ rows_from-zeros 0 n

-- nothing starts, behind so many values
starts_after-zeros : (b n : ℕ) → starts_after b (replicate n 0) ≡ b ∷ []
starts_after-zeros b zero = refl
starts_after-zeros b (suc n) = ap (λ m. starts_after m (replicate n 0)) (omega arith) ∙ starts_after-zeros b n

-- nothing starts
pub starts-zeros : (n : ℕ) → starts_of (map (λ row. 0) (range_with_len 0 n)) ≡ 0 ∷ []
unfolding starts_of
starts-zeros n = ap (starts_after 0) (same_counts 0 0 n) ∙ starts_after-zeros 0 n

-- nothing ends
pub ends-zeros : (b n : ℕ) → ends_behind b (map (λ row. 0) (range_with_len 0 n)) ≡ []
ends-zeros b n =
    ap (drop 1) (sym (starts_after-ends b (map (λ row. 0) (range_with_len 0 n)))
    ∙ ap (starts_after b) (same_counts 0 0 n) ∙ starts_after-zeros b n)

-- there is no value
pub sum-zeros : (n : ℕ) → sum (map (λ row. 0) (range_with_len 0 n)) ≡ 0
sum-zeros n = ap sum (same_counts 0 0 n) ∙ sum_by-replicate (λ x. x) n 0 ∙ omega arith

-- ---- one value each

-- each has one, from a row on
rows_from-ones : (b n : ℕ) → rows_from b (replicate n 1) ≡ range_with_len b n
rows_from-ones b zero = refl
rows_from-ones b (suc n) = ap (λ more. b ∷ more) (rows_from-ones (suc b) n ∙ ap (λ m. range_with_len m n) (omega arith))

-- each has a value
pub rows-ones : (n : ℕ) → rows_with_value (map (λ row. 1) (range_with_len 0 n)) ≡ range_with_len 0 n
rows-ones n = ap rows_with_value (same_counts 1 0 n) ∙ rows_with_value-from (replicate n 1) ∙ rows_from-ones 0 n

-- each starts one further, behind so many values
starts_after-ones : (b n : ℕ) → starts_after b (replicate n 1) ≡ range_with_len b (suc n)
starts_after-ones b zero = refl
starts_after-ones b (suc n) = ap (λ more. b ∷ more) (starts_after-ones (b + 1) n)

-- each starts one further
pub starts-ones : (n : ℕ) → starts_of (map (λ row. 1) (range_with_len 0 n)) ≡ range_with_len 0 (suc n)
unfolding starts_of
starts-ones n = ap (starts_after 0) (same_counts 1 0 n) ∙ starts_after-ones 0 n

-- each ends one further, behind so many values
pub ends-ones : (b n : ℕ) → ends_behind b (map (λ row. 1) (range_with_len 0 n)) ≡ range_with_len (b + 1) n
ends-ones b n =
    ap (drop 1) (sym (starts_after-ends b (map (λ row. 1) (range_with_len 0 n)))
    ∙ ap (starts_after b) (same_counts 1 0 n) ∙ starts_after-ones b n)

-- there are as many values as rows
pub sum-ones : (n : ℕ) → sum (map (λ row. 1) (range_with_len 0 n)) ≡ n
sum-ones n = ap sum (same_counts 1 0 n) ∙ sum_by-replicate (λ x. x) n 1 ∙ omega arith

-- where each row has at most one value, offsets count them
pub starts-set : (s : RowSet) → AreRows s → starts_of (set_counts s) ≡ range_with_len 0 (suc (length s.rows))
unfolding starts_of
starts-set s a = spread_starts 0 (set_spread s a) ∙ starts_after-ones 0 (length s.rows)

-- and so do ends, behind so many values
pub ends-set : (b : ℕ) (s : RowSet) → AreRows s → ends_behind b (set_counts s) ≡ range_with_len (b + 1) (length s.rows)
ends-set b s a =
    ap (drop 1) (sym (starts_after-ends b (set_counts s)) ∙ spread_starts b (set_spread s a) ∙ starts_after-ones b (length s.rows))

-- ---- numbers from 0 on

-- a number is at its place
pub number_within : (n k : ℕ) → k < n → slice_get (range_with_len 0 n) k ≡ Some k
number_within n k h =
    let long = length-range_with_len 0 n in
    slice_get-get_or (range_with_len 0 n) k 0 (omega arith)
    ∙ ap Some (get_or-range_with_len 0 n k 0 h ∙ omega arith)

-- there is none from the limit on
pub number_past : (n k : ℕ) → n ≤ k → slice_get (range_with_len 0 n) k ≡ None
number_past n k h = let long = length-range_with_len 0 n in slice_get_past (range_with_len 0 n) k (omega arith)

-- ---- hints

-- where each row has at most one value, nothing has to be told of the next row
pub zero-hint : (rows : List ℕ) (place : ℕ) (r : Option (ℕ × ℕ)) → IfSome r (λ r. r.0 ≡ 0) → IfSome r (λ r. IsHint32 rows r.0 place)
zero-hint rows place None h = tt
zero-hint rows place (Some r) h = record { told = inl h; small = omega (arith, h) }

-- ---- a segment by what its index is

-- its rows with a value
pub rows_as : (n : ℕ) (index made : ColumnIndex) (rows : List ℕ) → index ≡ made
    → rows_with_value (counts_in n (shape_of made)) ≡ rows → rows_with_value (counts_in n (shape_of index)) ≡ rows
rows_as n index made rows e f = ap (λ i. rows_with_value (counts_in n (shape_of i))) e ∙ f

-- its start offsets
pub starts_as : (n : ℕ) (index made : ColumnIndex) (starts : List ℕ) → index ≡ made
    → starts_of (counts_in n (shape_of made)) ≡ starts → starts_of (counts_in n (shape_of index)) ≡ starts
starts_as n index made starts e f = ap (λ i. starts_of (counts_in n (shape_of i))) e ∙ f

-- how many values it has
pub sum_as : (n : ℕ) (index made : ColumnIndex) (values : ℕ) → index ≡ made → sum (counts_in n (shape_of made)) ≡ values
    → sum (counts_in n (shape_of index)) ≡ values
sum_as n index made values e f = ap (λ i. sum (counts_in n (shape_of i))) e ∙ f

-- where its values end
pub ends_as : (b n : ℕ) (index made : ColumnIndex) (ends : List ℕ) → index ≡ made
    → ends_behind b (counts_in n (shape_of made)) ≡ ends → ends_behind b (counts_in n (shape_of index)) ≡ ends
ends_as b n index made ends e f = ap (λ i. ends_behind b (counts_in n (shape_of i))) e ∙ f
