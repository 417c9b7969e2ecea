-- The runs of rows that stand in runs.
use Rattle.std.proofs.Common.{◌≡◌, ℕ, zero, suc, ◌+◌, ◌<◌, ◌==◌, true, List, [], ◌∷◌, ◌++◌, zip, refl, sym, ap, ◌∙◌, arith}
use Rattle.std.specs.List.{range_with_len}
use Rattle.std.proofs.lemmas.Bool.{true≢false, eq-eqb, ne_eqb, cond-true, cond-false}
use Rattle.col_model.specs.Index.{run_rows, are_runs, before_runs, runs_of}
use Rattle.col_model.proofs.RowRunTests.{runs_from, first_run, are_runs-first}

-- the runs begin behind a row
abbrev pub BeginBehind : ℕ → List (ℕ × ℕ) → Type 0
BeginBehind row [] = Unit {0}
BeginBehind row (r ∷ rs) = row < r.0

-- a row in front of runs that begin further behind is a run
row_apart : (row : ℕ) (rs : List (ℕ × ℕ)) → BeginBehind (row + 1) rs → before_runs row rs ≡ (row, 1) ∷ rs
row_apart row [] h = refl
row_apart row (r ∷ rs) h = cond-false (row + 1 == r.0) ((row, r.1 + 1) ∷ rs) ((row, 1) ∷ r ∷ rs) (ne_eqb (row + 1) r.0 (λ e. omega arith))

-- a row right in front of a run makes it longer
row_joined : (row l : ℕ) (rs : List (ℕ × ℕ)) → before_runs row ((row + 1, suc l) ∷ rs) ≡ (row, suc (suc l)) ∷ rs
row_joined row l rs =
    cond-true (row + 1 == row + 1) ((row, suc l + 1) ∷ rs) ((row, 1) ∷ (row + 1, suc l) ∷ rs) (eq-eqb (row + 1) (row + 1) refl)
    ∙ ap (λ m. (row, m) ∷ rs) (omega arith)

-- rows one behind another in front of runs that begin further behind are a run
run_apart : (s l : ℕ) (rows : List ℕ) (rs : List (ℕ × ℕ)) → runs_of rows ≡ rs → BeginBehind (s + suc l) rs
    → runs_of (range_with_len s (suc l) ++ rows) ≡ (s, suc l) ∷ rs
unfolding runs_of
run_apart s zero rows rs e h = ap (before_runs s) e ∙ row_apart s rs h
run_apart s (suc l) rows rs e h =
    let same : s + suc (suc l) ≡ s + 1 + suc l = omega arith in
    ap (before_runs s) (run_apart (s + 1) l rows rs e (rw (← same) h)) ∙ row_joined s l rs

-- the first of the runs begins behind the one before it
begins_behind : (n row : ℕ) (ss ls : List ℕ) → runs_from n (row + 1) ss ls ≡ true → BeginBehind row (zip ss ls)
begins_behind n row [] [] e = tt
begins_behind n row [] (l ∷ ls) e = tt
begins_behind n row (s ∷ ss) [] e = tt
begins_behind n row (s ∷ ss) (l ∷ ls) e = let from = (first_run n (row + 1) s l ss ls e).from in omega arith

-- runs that are apart are the runs of their rows
pub runs_of-rows : (n next : ℕ) (ss ls : List ℕ) → runs_from n next ss ls ≡ true → runs_of (run_rows ss ls) ≡ zip ss ls
unfolding runs_of
runs_of-rows n next [] [] e = refl
runs_of-rows n next [] (l ∷ ls) e = absurd (true≢false (sym e))
runs_of-rows n next (s ∷ ss) [] e = absurd (true≢false (sym e))
runs_of-rows n next (s ∷ ss) (zero ∷ ls) e = absurd (let some = (first_run n next s zero ss ls e).some in omega arith)
runs_of-rows n next (s ∷ ss) (suc l ∷ ls) e =
    let r = first_run n next s (suc l) ss ls e in
    run_apart s l (run_rows ss ls) (zip ss ls) (runs_of-rows n (s + suc l + 1) ss ls r.rest)
    (begins_behind n (s + suc l) ss ls r.rest)

-- the same by the definition
pub runs_of-run_rows : (n : ℕ) (ss ls : List ℕ) → are_runs n ss ls ≡ true → runs_of (run_rows ss ls) ≡ zip ss ls
runs_of-run_rows n ss ls e = runs_of-rows n 0 ss ls (sym (are_runs-first n ss ls) ∙ e)
