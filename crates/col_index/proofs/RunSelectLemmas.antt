-- The rows of runs, by their ranks.
use Rattle.std.proofs.Common.{◌≡◌, ℕ, zero, suc, ◌+◌, ◌-◌, ◌<◌, ◌≤◌, true, List, [], ◌∷◌, ◌++◌, length, take, sum, get_or, slice_get, Some, sym, ap, ◌∙◌, arith}
use Rattle.std.specs.List.{range_with_len}
use Rattle.std.proofs.lemmas.Bool.{true≢false}
use Rattle.col_model.specs.Index.{run_rows}
use Rattle.col_model.proofs.ListLaws.{sum-cons}
use Rattle.col_model.proofs.RowRunTests.{runs_from, first_run}

-- a row of a run in front of others
range-get : (s l k : ℕ) (rows : List ℕ) → k < l → slice_get (range_with_len s l ++ rows) k ≡ Some (s + k)
range-get s zero k rows h = absurd (omega arith)
range-get s (suc l) zero rows h = ap Some (omega arith)
range-get s (suc l) (suc k) rows h = range-get (s + 1) l k rows (omega arith) ∙ ap Some (omega arith)

-- a row behind a run
range-get_behind : (s l k : ℕ) (rows : List ℕ) → l ≤ k → slice_get (range_with_len s l ++ rows) k ≡ slice_get rows (k - l)
range-get_behind s zero k rows h = ap (slice_get rows) (omega arith)
range-get_behind s (suc l) zero rows h = absurd (omega arith)
range-get_behind s (suc l) (suc k) rows h = range-get_behind (s + 1) l k rows (omega arith) ∙ ap (slice_get rows) (omega arith)

-- the row of a rank, by how many rows stand before its run
pub selected : (n next k rank : ℕ) (ss ls : List ℕ) → runs_from n next ss ls ≡ true → k < length ss
    → sum (take k ls) ≤ rank → rank < sum (take k ls) + get_or ls k 0
    → slice_get (run_rows ss ls) rank ≡ Some (get_or ss k 0 + (rank - sum (take k ls)))
selected n next k rank [] ls e h low high = absurd (omega arith)
selected n next k rank (s ∷ ss) [] e h low high = absurd (true≢false (sym e))
selected n next zero rank (s ∷ ss) (l ∷ ls) e h low high = range-get s l rank (run_rows ss ls) (omega arith) ∙ ap Some (omega arith)
selected n next (suc k) rank (s ∷ ss) (l ∷ ls) e h low high =
    let r = first_run n next s l ss ls e in
    let all = sum-cons l (take k ls) in
    range-get_behind s l rank (run_rows ss ls) (omega (arith, all))
    ∙ selected n (s + l + 1) k (rank - l) ss ls r.rest (omega arith) (omega (arith, all)) (omega (arith, all))
    ∙ ap Some (omega (arith, all))
