-- Where runs end, and their rows by ranks.
use Rattle.std.proofs.Common.{◌≡◌, ℕ, zero, suc, ◌+◌, ◌-◌, ◌<◌, ◌≤◌, true, List, [], ◌∷◌, length, get_or, sym, ap, ◌∙◌, arith}
use Rattle.std.proofs.lemmas.Bool.{true≢false}
use Rattle.col_common.specs.Ascending.{differences}
use Rattle.col_model.specs.Index.{RowSet}
use Rattle.col_model.proofs.RowRunTests.{runs_from, first_run}
use Rattle.col_index.specs.Runs.{AreSummedRuns}
use Rattle.col_index.proofs.RunRankLemmas.{start_from}
use Rattle.col_index.proofs.RunHeldLemmas.{first_runs, summed_next}

-- ---- ends

-- a run ends by the count
pub end_within : (n next k : ℕ) (ss ls : List ℕ) → runs_from n next ss ls ≡ true → k < length ss → get_or ss k 0 + get_or ls k 0 ≤ n
end_within n next k [] ls e h = absurd (omega arith)
end_within n next k (s ∷ ss) [] e h = absurd (true≢false (sym e))
end_within n next zero (s ∷ ss) (l ∷ ls) e h = (first_run n next s l ss ls e).within
end_within n next (suc k) (s ∷ ss) (l ∷ ls) e h =
    end_within n (s + l + 1) k ss ls (first_run n next s l ss ls e).rest (omega arith)

-- and before the next one starts
pub end_apart : (n next k : ℕ) (ss ls : List ℕ) → runs_from n next ss ls ≡ true → suc k < length ss
    → get_or ss k 0 + get_or ls k 0 < get_or ss (suc k) 0
end_apart n next k [] ls e h = absurd (omega arith)
end_apart n next k (s ∷ ss) [] e h = absurd (true≢false (sym e))
end_apart n next zero (s ∷ ss) (l ∷ ls) e h =
    let from = start_from n (s + l + 1) 0 ss ls (first_run n next s l ss ls e).rest (omega arith) in
    omega arith
end_apart n next (suc k) (s ∷ ss) (l ∷ ls) e h =
    end_apart n (s + l + 1) k ss ls (first_run n next s l ss ls e).rest (omega arith)

-- the same of summed runs, of the last of so many
module _ (s : RowSet) (before : List ℕ) (r : AreSummedRuns s before) (count : ℕ) (some : 0 < count) (few : count ≤ length s.rows) where
  length_of : get_or before count 0 ≡ get_or before (count - 1) 0 + get_or (differences before) (count - 1) 0
  length_of =
      let next : count ≡ count - 1 + 1 = omega arith in
      ap (λ k. get_or before k 0) next ∙ summed_next s before r (count - 1) (omega arith)

  -- the last of so many runs ends within the row count
  pub last_within : get_or s.rows (count - 1) 0 + (get_or before count 0 - get_or before (count - 1) 0) ≤ s.num_rows
  last_within =
      let within = end_within s.num_rows 0 (count - 1) s.rows (differences before) (first_runs s before r) (omega arith) in
      omega (arith, within, length_of)

  -- and ends at or before the start of the next
  pub last_apart : count < length s.rows
      → get_or s.rows (count - 1) 0 + (get_or before count 0 - get_or before (count - 1) 0) ≤ get_or s.rows count 0
  last_apart more =
      let next : suc (count - 1) ≡ count = omega arith in
      let apart = end_apart s.num_rows 0 (count - 1) s.rows (differences before) (first_runs s before r) (omega arith) in
      omega (arith, apart, length_of, ap (λ k. get_or s.rows k 0) next)
