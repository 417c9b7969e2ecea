-- Bits of rows in runs.
use Rattle.std.proofs.Common.{◌≡◌, ℕ, ◌+◌, ◌^◌, ◌<◌, ◌≤◌, true, List, [], length, get_or, take, replicate, slice_get, slice_index, Some, refl, sym, ap, subst, ◌∙◌, arith}
use Rattle.std.proofs.lemmas.List.{take_all}
use Rattle.col_common.specs.Ascending.{differences, is_rising}
use Rattle.col_model.specs.Index.{RowSet, run_rows}
use Rattle.col_index.specs.Ranks.{AreRanks, HasFlags}
use Rattle.col_index.specs.Runs.{AreSummedRuns, rows_of_runs}
use Rattle.col_index.specs.declared.run_places.Run.{Run}
use Rattle.col_index.proofs.RankLaws.{rows_rise}
use Rattle.col_index.proofs.RankWordLemmas.{flags_clear}
use Rattle.col_index.proofs.RunHeldLemmas.{summed_rows, summed_at, summed_all, row_selected}
use Rattle.col_index.proofs.SetLemmas.{few_rows, row_below}

module _ (s : RowSet) (before : List ℕ) (r : AreSummedRuns s before) where
  abbrev rows : List ℕ
  rows = run_rows s.rows (differences before)

  -- the rows of runs rise
  pub run_rows_rise : is_rising rows ≡ true
  run_rows_rise = rows_rise (rows_of_runs s before) (summed_rows s before r)

  -- and are fewer than 2 ^ 32 where the row count is
  pub run_rows_few : s.num_rows < 2 ^ 32 → length rows < 2 ^ 32
  run_rows_few small = omega (arith, few_rows s.num_rows rows (summed_rows s before r))

  -- no bits reach no row
  pub ranks_none : s.num_rows < 2 ^ 32 → AreRanks rows [] []
  ranks_none small = record {
    few = run_rows_few small;
    flags = λ k h. absurd (omega arith);
    counts = record { long = refl; each = λ k h. absurd (omega arith) };
  }

  -- zeros are the bits of the rows before the first run
  pub flags_first : (words : List ℕ) → words ≡ replicate (length words) 0 → HasFlags (take (slice_index before 0) rows) words
  flags_first words clear =
      subst (λ n. HasFlags (take n rows) words) (sym (summed_at s before r 0 (omega arith))) (flags_clear words clear)

  -- the rows before the end are all
  pub flags_last : (words : List ℕ) (count : ℕ) → count ≡ length s.rows → HasFlags (take (slice_index before count) rows) words
      → HasFlags rows words
  flags_last words count e f =
      let all : slice_index before count ≡ length rows = ap (λ k. get_or before k 0) e ∙ summed_all s before r in
      subst (λ xs. HasFlags xs words) (take_all (slice_index before count) rows (omega (arith, all))) f

  -- a row of the run with a number
  module _ (number : ℕ) (run : Run) (inside : ℕ) (within : number < length s.rows)
      (start : slice_index s.rows number ≡ run.start) (sum : slice_index before number ≡ run.before)
      (end : slice_index before (number + 1) ≡ run.before + run.len) (in_run : inside < run.len) where
    pub row_of_run : slice_get rows (run.before + inside) ≡ Some (run.start + inside)
    row_of_run =
        row_selected s before r number (run.before + inside) run.start run.before (run.before + run.len) within (sym start)
        (sym sum) (sym end) (omega arith) (omega arith)
        ∙ ap Some (omega arith)

    pub row_of_run_below : run.start + inside < s.num_rows
    row_of_run_below =
        row_below (rows_of_runs s before) (run.before + inside) (run.start + inside) (summed_rows s before r) row_of_run

  -- rows of the run that follow one another
  pub run_spans : (number : ℕ) (run : Run) (inside len : ℕ) → number < length s.rows → slice_index s.rows number ≡ run.start
      → slice_index before number ≡ run.before → slice_index before (number + 1) ≡ run.before + run.len → inside + len ≤ run.len
      → (i : ℕ) → i < len → slice_get rows (run.before + inside + i) ≡ Some (run.start + inside + i)
  run_spans number run inside len within start sum end upto i h =
      let at : run.before + inside + i ≡ run.before + (inside + i) = omega arith in
      ap (slice_get rows) at ∙ row_of_run number run (inside + i) within start sum end (omega arith) ∙ ap Some (omega arith)
