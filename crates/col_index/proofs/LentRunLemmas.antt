-- Runs by their numbers.
use Rattle.std.proofs.Common.{◌≡◌, ℕ, zero, suc, ◌+◌, ◌<◌, List, [], ◌∷◌, length, zip, get_or, slice_get, Some, refl, ap, ◌∙◌, arith}
use Rattle.col_common.specs.Ascending.{differences}
use Rattle.col_model.specs.Index.{RowSet, run_rows, runs_of}
use Rattle.col_model.proofs.RowRunJoins.{runs_of-run_rows}
use Rattle.col_model.proofs.RowRunTests.{are_runs-parts}
use Rattle.col_index.specs.Runs.{AreSummedRuns}
use Rattle.col_index.proofs.RunHeldLemmas.{summed_next}

-- a pair of two lists
zip_get : (xs ys : List ℕ) (k : ℕ) → k < length xs → k < length ys → slice_get (zip xs ys) k ≡ Some (get_or xs k 0, get_or ys k 0)
zip_get [] ys k h i = absurd (omega (arith, h))
zip_get (x ∷ xs) [] k h i = absurd (omega (arith, i))
zip_get (x ∷ xs) (y ∷ ys) zero h i = refl
zip_get (x ∷ xs) (y ∷ ys) (suc k) h i = zip_get xs ys k (omega (arith, h)) (omega (arith, i))

-- a run by its number
pub run_lent : (s : RowSet) (before : List ℕ) → AreSummedRuns s before → (k start sum len : ℕ) → k < length s.rows
    → get_or s.rows k 0 ≡ start → get_or before k 0 ≡ sum → get_or before (k + 1) 0 ≡ sum + len
    → slice_get (runs_of (run_rows s.rows (differences before))) k ≡ Some (start, len)
run_lent s before r k start sum len h st su en =
    let lengths = differences before in
    let alike = (are_runs-parts s.num_rows s.rows lengths r.runs).alike in
    let long : get_or lengths k 0 ≡ len = omega (arith, summed_next s before r k h, su, en) in
    ap (λ rs. slice_get rs k) (runs_of-run_rows s.num_rows s.rows lengths r.runs)
    ∙ zip_get s.rows lengths k h (omega (arith, h, alike))
    ∙ ap (λ a. Some (a, get_or lengths k 0)) st
    ∙ ap (λ b. Some (start, b)) long
