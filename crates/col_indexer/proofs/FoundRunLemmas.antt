-- Runs that were found of rows, as they are written.
use Rattle.std.proofs.Common.{◌≡◌, ℕ, ◌*◌, ◌^◌, ◌<◌, nat_lt, true, List, ◌∷◌, length, sum, ap, ◌∙◌, arith}
use Rattle.col_model.specs.Index.{RowSet, runs_of, run_lengths}
use Rattle.col_model.proofs.RowRunLaws.{runs-hold}
use Rattle.col_indexer.specs.Spelling.{run_bytes, row_set_bytes, AreRowsOf32}
use Rattle.col_indexer.proofs.SetSpellingLemmas.{rows-fit, runs-of-fit, set-in_runs}

module _ (s : RowSet) (runs : List (ℕ × ℕ)) (a : AreRowsOf32 s) (e : runs ≡ runs_of s.rows) where
  -- they are fewer than 2 ^ 32
  pub found-fit : length runs < 2 ^ 32
  found-fit = omega (arith, ap length e, runs-of-fit s a)

  -- they hold the rows
  pub found-hold : sum (run_lengths runs) ≡ length s.rows
  found-hold = ap (λ rs. sum (run_lengths rs)) e ∙ runs-hold s.rows

  -- which are fewer than 2 ^ 32
  pub found-few : sum (run_lengths runs) < 2 ^ 32
  found-few = omega (arith, found-hold, rows-fit s a)

  -- where they pay, they are written
  pub found-written : (n m : ℕ) → n ≡ length runs → m ≡ sum (run_lengths runs) → true ≡ nat_lt (32 * n) m
      → 1 ∷ run_bytes s.num_rows runs ≡ row_set_bytes s
  found-written n m h k pay =
      ap (λ rs. 1 ∷ run_bytes s.num_rows rs) e ∙ set-in_runs s n m (h ∙ ap length e) (k ∙ found-hold) pay
