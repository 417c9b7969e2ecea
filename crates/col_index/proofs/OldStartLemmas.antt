-- Start offsets of all rows.
use Rattle.std.proofs.Common.{◌≡◌, ℕ, ◌-◌, ◌<◌, ◌^◌, nat_eq, nat_lt, true, List, [], ◌∷◌, ◌++◌, length, take, sum, slice_get, Some, sym, ap, ◌∙◌, arith}
use Rattle.std.specs.List.{list_all, starts_with}
use Rattle.std.proofs.lemmas.Bool.{and_parts, ltb-true}
use Rattle.std.proofs.lemmas.List.{take_all}
use Rattle.std.proofs.lemmas.Option.{get_or_from_slice_get, slice_get_within}
use Rattle.col_common.specs.Ascending.{is_never_falling, differences, AreBelow}
use Rattle.col_model.specs.Index.{RowSet, RowOffsets}
use Rattle.col_model.specs.Positions.{rows_with_value, starts_of}
use Rattle.col_index.specs.Offsets.{AreOffsets, AreOldOffsets}
use Rattle.col_model.proofs.ListLaws.{length-differences}
use Rattle.col_index.proofs.DifferenceLaws.{sum-differences}
use Rattle.col_index.proofs.IndexedLaws.{set_of_counts, offsets_of_counts, counts-are_offsets}
use Rattle.col_index.proofs.RankLaws.{below_at}
use Rattle.col_index.proofs.SpreadLaws.{all_below}
use Rattle.col_index.proofs.StartLemmas.{start_list-parts, passes_at}
use Rattle.col_index.proofs.SetLemmas.{few_rows}

-- the offsets are numbers of 32 bits
pub old-below : (starts : List ℕ) → AreOldOffsets starts → AreBelow (2 ^ 32) starts
old-below starts old =
    all_below (2 ^ 32) starts
    (and_parts (starts_with nat_eq starts (0 ∷ [])) (list_all (λ s. nat_lt s (2 ^ 32)) starts) old.offsets).1

-- so is the one at a place
pub old-fits : (starts : List ℕ) (i v : ℕ) → AreOldOffsets starts → slice_get starts i ≡ Some v → v < 2 ^ 32
old-fits starts i v old read =
    let low = below_at (2 ^ 32) starts i (old-below starts old) (slice_get_within starts i v read) in
    omega (arith, low, get_or_from_slice_get starts i v 0 read)

-- each row has the distance of two offsets
pub length-counts_between : (starts : List ℕ) → length (differences starts) ≡ length starts - 1
length-counts_between [] = omega arith
length-counts_between (x ∷ xs) = length-differences x xs ∙ omega arith

-- the values are as many as the last offset says
sum-between : (starts : List ℕ) → list_all (λ s. nat_lt s (2 ^ 32)) starts ≡ true → is_never_falling starts ≡ true
    → sum (differences starts) < 2 ^ 32
sum-between [] e f = omega arith
sum-between (x ∷ xs) e f =
    let last = length xs in
    let small = ltb-true _ _ (passes_at (λ s. nat_lt s (2 ^ 32)) (x ∷ xs) last e (omega arith)) in
    let whole : take last (differences (x ∷ xs)) ≡ differences (x ∷ xs) =
    take_all last (differences (x ∷ xs)) (omega (arith, length-differences x xs)) in
    omega (arith, small, sum-differences x xs last f (omega arith), ap sum whole)

-- rows and offsets of the counts
pub old-are_offsets : (starts : List ℕ) → AreOldOffsets starts → AreOffsets (offsets_of_counts (differences starts))
old-are_offsets starts old =
    let small = (and_parts (starts_with nat_eq starts (0 ∷ [])) (list_all (λ s. nat_lt s (2 ^ 32)) starts) old.offsets).1 in
    counts-are_offsets (differences starts) (sum-between starts small old.never_fall)

-- one more offset than rows with a value, of which there are no more than rows
pub old-few : (starts : List ℕ) → AreOldOffsets starts → length (starts_of (differences starts)) < 2 ^ 32
old-few starts old =
    let cs = differences starts in
    let o = offsets_of_counts cs in
    let a = old-are_offsets starts old in
    let few = few_rows (length cs) o.set.rows a.rows in
    omega (arith, few, (start_list-parts (length o.set.rows) o.starts a.starts).count, length-counts_between starts, old.few)

-- what is read of a list that was appended to none
pub appended-to-none : (read whole front list : List ℕ) → read ≡ whole → whole ≡ front ++ list → front ≡ [] → read ≡ list
appended-to-none read whole front list e f g = e ∙ f ∙ ap (λ xs. xs ++ list) g

-- the rows that were found are those of the counts
pub old-set : (starts rows : List ℕ) → rows ≡ rows_with_value (differences starts)
    → ◌≡◌ {A = RowSet} (record { num_rows = length starts - 1; rows = rows }) (set_of_counts (differences starts))
old-set starts rows e = λ i. record { num_rows = sym (length-counts_between starts) i; rows = e i }

-- and so are the rows with the offsets
pub old-whole : (offsets rows starts column : List ℕ) (set : RowSet) → rows ≡ rows_with_value (differences offsets)
    → starts ≡ starts_of (differences offsets) → set ≡ record { num_rows = length offsets - 1; rows = rows }
    → column ≡ starts
    → ◌≡◌ {A = RowOffsets} (record { set = set; starts = column }) (offsets_of_counts (differences offsets))
old-whole offsets rows starts column set r s e f = λ i. record { set = (e ∙ old-set offsets rows r) i; starts = (f ∙ s) i }
