-- How many values rows have, by the rows with a value and their start offsets.
use Rattle.std.proofs.Common.{◌≡◌, ℕ, zero, suc, ◌+◌, ◌-◌, ◌<◌, ◌≤◌, ◌==◌, not, nat_lt, Bool, true, false, cond, length, get_or, replicate, refl, sym, ap, ◌∙◌, arith}
use Rattle.std.specs.List.{AllByRecursion, sum, list_all}
use Rattle.std.proofs.lemmas.Bool.{and_parts, ne_eqb}
use Rattle.std.proofs.lemmas.List.{length-replicate, get_or-replicate, take-replicate, take_all}
use Rattle.std.proofs.lemmas.List.Folds.{sum_by-replicate}
use Rattle.std.proofs.lemmas.List.FromFn.{length-map-range_with_len}
use Rattle.col_common.specs.Ascending.{is_rising, differences}
use Rattle.col_model.specs.Index.{RowSet, RowOffsets, set_counts, offset_counts}
use Rattle.col_model.specs.Positions.{rank, start_of, rows_with_value, starts_of}
use Rattle.col_index.specs.Offsets.{AreOffsets}
use Rattle.col_index.specs.Sets.{AreRows, holds}
use Rattle.col_index.proofs.RankLaws.{rows_rise, rank-le-length, all_at}
use Rattle.col_index.proofs.HeldLaws.{holds-rank}
use Rattle.col_index.proofs.SpreadLaws.{IsSpread, spread_counts, spread_start, spread_count, spread_sum, spread_starts}
use Rattle.col_index.proofs.DifferenceLaws.{Starts, starts_parts, length-counts, sum-counts, starts_after-counts, get_or-differences, differences-positive}
use Rattle.col_index.proofs.RowsLaws.{rows_with_value-from, spread_rows}

-- ---- rows with one value each

-- the rows with a value are below the number of rows
pub rows_below : (s : RowSet) → AreRows s → list_all (λ r. nat_lt r s.num_rows) s.rows ≡ true
rows_below s a = (and_parts (is_rising s.rows) (list_all (λ r. nat_lt r s.num_rows) s.rows) a).1

-- the counts of rows that have at most one value are 1 at each row with a value, and 0 elsewhere
pub set_spread : (s : RowSet) → AreRows s → IsSpread 0 s.rows (replicate (length s.rows) 1) (set_counts s)
set_spread s a =
    spread_counts s.num_rows s.rows (replicate (length s.rows) 1) (rows_rise s a) (rows_below s a)
    (sym (length-replicate (length s.rows) 1))

-- there are as many counts as rows
pub length-set_counts : (s : RowSet) → length (set_counts s) ≡ s.num_rows
length-set_counts s = length-map-range_with_len _ 0 s.num_rows

-- the values before a row are as many as the rows before it
pub set_counts-start : (s : RowSet) → AreRows s → (row : ℕ) → start_of (set_counts s) row ≡ rank s.rows row
set_counts-start s a row =
    let r = rank s.rows row in
    let few : r ≤ length s.rows = rank-le-length s.rows row in
    spread_start (set_spread s a) row row (omega arith)
    ∙ ap sum (take-replicate r (length s.rows) 1 few)
    ∙ sum_by-replicate (λ x. x) r 1
    ∙ omega arith

-- the count of a row is 1 where the row has a value, else 0
pub set_counts-at : (s : RowSet) → AreRows s → (row : ℕ) → get_or (set_counts s) row 0 ≡ cond (holds s.rows row) 1 0
set_counts-at s a row = spread_count (set_spread s a) row row (omega arith) ∙ go (holds s.rows row) refl
  where
    go : (b : Bool) → holds s.rows row ≡ b → ◌≡◌ {A = ℕ} (cond b (get_or (replicate (length s.rows) 1) (rank s.rows row) 0) 0) (cond b 1 0)
    go true e = get_or-replicate (length s.rows) (rank s.rows row) 1 0 (holds-rank s.rows row (rows_rise s a) e).0
    go false e = refl

-- the counts sum up to the number of rows with a value
pub sum-set_counts : (s : RowSet) → AreRows s → sum (set_counts s) ≡ length s.rows
sum-set_counts s a = spread_sum (set_spread s a) ∙ sum_by-replicate (λ x. x) (length s.rows) 1 ∙ omega arith

all_ones : (n : ℕ) → AllByRecursion (λ v. 0 < v) (replicate n 1)
all_ones zero = tt
all_ones (suc n) = (omega arith, all_ones n)

-- the rows whose count isn't 0 are the rows with a value
pub set_counts-rows : (s : RowSet) → AreRows s → rows_with_value (set_counts s) ≡ s.rows
set_counts-rows s a = rows_with_value-from (set_counts s) ∙ spread_rows (all_ones (length s.rows)) (set_spread s a)

-- ---- rows with any number of values

-- the start offsets of rows begin at 0, rise, and are one more than the rows
pub offset_starts : (o : RowOffsets) → AreOffsets o → Starts (length o.set.rows) o.starts
offset_starts o a = starts_parts (length o.set.rows) o.starts a.starts

pub offset_spread : (o : RowOffsets) → AreOffsets o → IsSpread 0 o.set.rows (differences o.starts) (offset_counts o)
offset_spread o a =
    spread_counts o.set.num_rows o.set.rows (differences o.starts) (rows_rise o.set a.rows)
    (rows_below o.set a.rows) (sym (length-counts (offset_starts o a)))

-- there are as many counts by offsets as rows
pub length-offset_counts : (o : RowOffsets) → length (offset_counts o) ≡ o.set.num_rows
length-offset_counts o = length-map-range_with_len _ 0 o.set.num_rows

-- the values of a row start where its offset says
pub offset_counts-start : (o : RowOffsets) → AreOffsets o → (row : ℕ)
    → start_of (offset_counts o) row ≡ get_or o.starts (rank o.set.rows row) 0
offset_counts-start o a row =
    spread_start (offset_spread o a) row row (omega arith)
    ∙ sum-counts (rank o.set.rows row) (rank-le-length o.set.rows row) (offset_starts o a)

-- a row that is in has as many as its offsets are apart
pub offset_counts-held : (o : RowOffsets) → AreOffsets o → (row : ℕ) → holds o.set.rows row ≡ true
    → get_or (offset_counts o) row 0
    ≡ get_or o.starts (rank o.set.rows row + 1) 0 - get_or o.starts (rank o.set.rows row) 0
offset_counts-held o a row e =
    let r = rank o.set.rows row in
    let within : r < length o.set.rows = (holds-rank o.set.rows row (rows_rise o.set a.rows) e).0 in
    let long = (offset_starts o a).long in
    spread_count (offset_spread o a) row row (omega arith)
    ∙ ap (λ b. cond b (get_or (differences o.starts) r 0) 0) e
    ∙ get_or-differences o.starts r (omega arith)
    ∙ ap (λ n. get_or o.starts n 0 - get_or o.starts r 0) (omega arith)

-- and at least one; another row has none
pub offset_counts-none : (o : RowOffsets) → AreOffsets o → (row : ℕ) → (get_or (offset_counts o) row 0 == 0) ≡ not (holds o.set.rows row)
offset_counts-none o a row = ap (λ n. n == 0) (spread_count (offset_spread o a) row row (omega arith)) ∙ go (holds o.set.rows row) refl
  where
    go : (b : Bool) → holds o.set.rows row ≡ b → (cond b (get_or (differences o.starts) (rank o.set.rows row) 0) 0 == 0) ≡ not b
    go true e =
        let within = (holds-rank o.set.rows row (rows_rise o.set a.rows) e).0 in
        let long = length-counts (offset_starts o a) in
        let some = all_at 1 (differences o.starts) (rank o.set.rows row)
        (differences-positive o.starts (offset_starts o a).rises) (omega arith) in
        ne_eqb (get_or (differences o.starts) (rank o.set.rows row) 0) 0 (λ f. omega arith)
    go false e = refl

-- the count of a row isn't 0 where the row has a value, and there alone
pub offset_counts-some : (o : RowOffsets) → AreOffsets o → (row : ℕ) → not (get_or (offset_counts o) row 0 == 0) ≡ holds o.set.rows row
offset_counts-some o a row = ap not (offset_counts-none o a row) ∙ twice (holds o.set.rows row)
  where
    twice : (b : Bool) → not (not b) ≡ b
    twice true = refl
    twice false = refl

-- all values end where the last offset says
pub sum-offset_counts : (o : RowOffsets) → AreOffsets o → sum (offset_counts o) ≡ get_or o.starts (length o.set.rows) 0
sum-offset_counts o a =
    let long = length-counts (offset_starts o a) in
    spread_sum (offset_spread o a)
    ∙ ap sum (sym (take_all (length o.set.rows) (differences o.starts) (omega arith)))
    ∙ sum-counts (length o.set.rows) (omega arith) (offset_starts o a)

-- the rows whose count by offsets isn't 0 are the rows with a value
pub offset_counts-rows : (o : RowOffsets) → AreOffsets o → rows_with_value (offset_counts o) ≡ o.set.rows
offset_counts-rows o a =
    rows_with_value-from (offset_counts o)
    ∙ spread_rows (differences-positive o.starts (offset_starts o a).rises) (offset_spread o a)

-- the values of the counts start where the offsets say
pub offset_counts-starts : (o : RowOffsets) → AreOffsets o → starts_of (offset_counts o) ≡ o.starts
unfolding starts_of
offset_counts-starts o a = spread_starts 0 (offset_spread o a) ∙ starts_after-counts (offset_starts o a)
