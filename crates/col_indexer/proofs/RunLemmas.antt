-- Runs of rows, as they are found one behind another.
use Rattle.std.proofs.Common.{◌≡◌, ℕ, zero, suc, ◌+◌, List, [], ◌∷◌, ◌++◌, refl, ap, ◌∙◌, inl, inr, arith}
use Rattle.std.specs.List.{range_with_len}
use Rattle.std.proofs.lemmas.Bool.{eq-eqb, ne_eqb, cases_eq}
use Rattle.col_model.specs.Index.{before_runs, runs_of}
use Rattle.col_indexer.specs.Runs.{then_run}

-- ---- the runs of rows with a run behind them

-- a row in front of the last run, and a run behind it
before-last : (row : ℕ) (r run : ℕ × ℕ) → before_runs row (then_run (r ∷ []) run) ≡ then_run (before_runs row (r ∷ [])) run
unfolding then_run
before-last row r run = elim (cases_eq (row + 1) r.0) as
    (λ _. before_runs row (then_run (r ∷ []) run) ≡ then_run (before_runs row (r ∷ [])) run) [
      | inl e ↦
          let end : row + (r.1 + 1) ≡ r.0 + r.1 = omega arith in
          elim (cases_eq (r.0 + r.1) run.0) [
            | inl f ↦
                rw (eq-eqb (r.0 + r.1) run.0 f, eq-eqb (row + 1) r.0 e, end, eq-eqb (r.0 + r.1) run.0 f)
                (ap (λ n. (row, n) ∷ []) (omega arith))
            | inr m ↦ rw (ne_eqb (r.0 + r.1) run.0 m, eq-eqb (row + 1) r.0 e, end, ne_eqb (r.0 + r.1) run.0 m) refl
          ]
      | inr n ↦
          elim (cases_eq (r.0 + r.1) run.0) [
            | inl f ↦ rw (eq-eqb (r.0 + r.1) run.0 f, ne_eqb (row + 1) r.0 n, eq-eqb (r.0 + r.1) run.0 f) refl
            | inr m ↦ rw (ne_eqb (r.0 + r.1) run.0 m, ne_eqb (row + 1) r.0 n, ne_eqb (r.0 + r.1) run.0 m) refl
          ]
    ]

-- a row in front of runs, and a run behind them
before-then : (row : ℕ) (rs : List (ℕ × ℕ)) (run : ℕ × ℕ) → before_runs row (then_run rs run) ≡ then_run (before_runs row rs) run
unfolding then_run
before-then row [] run = elim (cases_eq (row + 1) run.0) [
  | inl e ↦ rw (eq-eqb (row + 1) run.0 e) (ap (λ n. (row, n) ∷ []) (omega arith))
  | inr n ↦ rw (ne_eqb (row + 1) run.0 n) refl
]
before-then row (r ∷ []) run = before-last row r run
before-then row (r ∷ q ∷ rs) run = elim (cases_eq (row + 1) r.0) [
  | inl e ↦ rw (eq-eqb (row + 1) r.0 e) refl
  | inr n ↦ rw (ne_eqb (row + 1) r.0 n) refl
]

-- numbers that follow one another are a run
range-run : (start n : ℕ) → runs_of (range_with_len start (suc n)) ≡ (start, suc n) ∷ []
unfolding runs_of
range-run start zero = refl
range-run start (suc n) =
    ap (before_runs start) (range-run (start + 1) n)
    ∙ rw (eq-eqb (start + 1) (start + 1) refl) (ap (λ m. (start, m) ∷ []) (omega arith))

-- the runs of rows with a run behind them
pub runs-then : (rows : List ℕ) (start n : ℕ) → runs_of (rows ++ range_with_len start (suc n)) ≡ then_run (runs_of rows) (start, suc n)
unfolding runs_of then_run
runs-then [] start n = range-run start n
runs-then (row ∷ rows) start n =
    ap (before_runs row) (runs-then rows start n) ∙ before-then row (runs_of rows) (start, suc n)
