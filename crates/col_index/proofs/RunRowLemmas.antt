-- Rows that stand in runs: they rise, and so do the starts of the runs.
use Rattle.std.proofs.Common.{◌≡◌, ℕ, zero, suc, ◌+◌, ◌≤◌, ◌&&◌, nat_lt, nat_le, true, List, [], ◌∷◌, ◌++◌, length, sum, refl, sym, subst, ◌∙◌, arith}
use Rattle.std.specs.List.{AllByRecursion, range_with_len}
use Rattle.std.proofs.lemmas.Bool.{true≢false, and_parts, and_from, leb-true, lt-ltb, le-leb}
use Rattle.std.proofs.lemmas.List.{length-append}
use Rattle.std.proofs.lemmas.List.FromFn.{length-range_with_len}
use Rattle.col_model.specs.Index.{run_rows, are_runs}
use Rattle.col_model.proofs.ListLaws.{sum-cons}
use Rattle.col_model.proofs.RowRunTests.{runs_from, first_run, are_runs-first}
use Rattle.col_index.specs.Sets.{is_row_list}
use Rattle.col_index.proofs.SetLemmas.{rest_rises, rises_first}

-- ---- rows that rise from a row on

-- they rise from an earlier row on too
pub rises_earlier : (n a b : ℕ) (rows : List ℕ) → a ≤ b → rest_rises n b rows ≡ true → rest_rises n a rows ≡ true
rises_earlier n a b [] h e = refl
rises_earlier n a b (row ∷ rows) h e =
    let whole = and_parts (nat_le b row && nat_lt row n) (rest_rises n (row + 1) rows) e in
    let first = and_parts (nat_le b row) (nat_lt row n) whole.0 in
    let from = leb-true b row first.0 in
    and_from (nat_le a row && nat_lt row n) (rest_rises n (row + 1) rows)
    (and_from (nat_le a row) (nat_lt row n) (le-leb a row (omega arith)) first.1) whole.1

-- none of them is before it
pub none_before : (n next t : ℕ) (rows : List ℕ) → t ≤ next → rest_rises n next rows ≡ true → AllByRecursion (λ row. t ≤ row) rows
none_before n next t [] h e = tt
none_before n next t (row ∷ rows) h e =
    let whole = and_parts (nat_le next row && nat_lt row n) (rest_rises n (row + 1) rows) e in
    let from = leb-true next row (and_parts (nat_le next row) (nat_lt row n) whole.0).0 in
    (omega arith, none_before n (row + 1) t rows (omega arith) whole.1)

-- so do the rows of a run in front of rows behind it
range_rises : (n s l : ℕ) (rows : List ℕ) → s + l ≤ n → rest_rises n (s + l) rows ≡ true
    → rest_rises n s (range_with_len s l ++ rows) ≡ true
range_rises n s zero rows h e = rises_earlier n s (s + 0) rows (omega arith) e
range_rises n s (suc l) rows h e =
    let same : s + suc l ≡ s + 1 + l = omega arith in
    and_from (nat_le s s && nat_lt s n) (rest_rises n (s + 1) (range_with_len (s + 1) l ++ rows))
    (and_from (nat_le s s) (nat_lt s n) (le-leb s s (omega arith)) (lt-ltb s n (omega arith)))
    (range_rises n (s + 1) l rows (omega arith) (subst (λ k. rest_rises n k rows ≡ true) same e))

-- ---- the rows of runs, and their starts

-- the rows of runs rise from where the runs begin
pub rows_rise_from : (n next : ℕ) (ss ls : List ℕ) → runs_from n next ss ls ≡ true → rest_rises n next (run_rows ss ls) ≡ true
rows_rise_from n next [] [] e = refl
rows_rise_from n next [] (l ∷ ls) e = absurd (true≢false (sym e))
rows_rise_from n next (s ∷ ss) [] e = absurd (true≢false (sym e))
rows_rise_from n next (s ∷ ss) (l ∷ ls) e =
    let r = first_run n next s l ss ls e in
    let later = rows_rise_from n (s + l + 1) ss ls r.rest in
    rises_earlier n next s (run_rows (s ∷ ss) (l ∷ ls)) r.from
    (range_rises n s l (run_rows ss ls) r.within (rises_earlier n (s + l) (s + l + 1) (run_rows ss ls) (omega arith) later))

-- and so do the starts
pub starts_rise_from : (n next : ℕ) (ss ls : List ℕ) → runs_from n next ss ls ≡ true → rest_rises n next ss ≡ true
starts_rise_from n next [] ls e = refl
starts_rise_from n next (s ∷ ss) [] e = absurd (true≢false (sym e))
starts_rise_from n next (s ∷ ss) (l ∷ ls) e =
    let r = first_run n next s l ss ls e in
    and_from (nat_le next s && nat_lt s n) (rest_rises n (s + 1) ss)
    (and_from (nat_le next s) (nat_lt s n) (le-leb next s r.from) (lt-ltb s n (omega (arith, r.some, r.within))))
    (rises_earlier n (s + 1) (s + l + 1) ss (omega arith) (starts_rise_from n (s + l + 1) ss ls r.rest))

-- the rows of runs are rows
pub runs_are_rows : (n : ℕ) (ss ls : List ℕ) → are_runs n ss ls ≡ true → is_row_list n (run_rows ss ls) ≡ true
runs_are_rows n ss ls e = rises_first n (run_rows ss ls) ∙ rows_rise_from n 0 ss ls (sym (are_runs-first n ss ls) ∙ e)

-- and the starts of runs are
pub starts_are_rows : (n : ℕ) (ss ls : List ℕ) → are_runs n ss ls ≡ true → is_row_list n ss ≡ true
starts_are_rows n ss ls e = rises_first n ss ∙ starts_rise_from n 0 ss ls (sym (are_runs-first n ss ls) ∙ e)

-- ---- how many there are

-- as many rows as the lengths come to
pub length-run_rows : (n next : ℕ) (ss ls : List ℕ) → runs_from n next ss ls ≡ true → length (run_rows ss ls) ≡ sum ls
length-run_rows n next [] [] e = refl
length-run_rows n next [] (l ∷ ls) e = absurd (true≢false (sym e))
length-run_rows n next (s ∷ ss) [] e = absurd (true≢false (sym e))
length-run_rows n next (s ∷ ss) (l ∷ ls) e =
    let later = length-run_rows n (s + l + 1) ss ls (first_run n next s l ss ls e).rest in
    length-append (range_with_len s l) (run_rows ss ls)
    ∙ omega (arith, length-range_with_len s l, later, sum-cons l ls)

-- at least as many rows as runs
pub few_runs : (n next : ℕ) (ss ls : List ℕ) → runs_from n next ss ls ≡ true → length ss ≤ length (run_rows ss ls)
few_runs n next [] ls e = omega arith
few_runs n next (s ∷ ss) [] e = absurd (true≢false (sym e))
few_runs n next (s ∷ ss) (l ∷ ls) e =
    let r = first_run n next s l ss ls e in
    let later = few_runs n (s + l + 1) ss ls r.rest in
    omega (arith, r.some, length-append (range_with_len s l) (run_rows ss ls), length-range_with_len s l)
