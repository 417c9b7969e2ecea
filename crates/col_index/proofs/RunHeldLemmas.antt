-- Rows of runs by the starts of these and how many rows stand before each.
use Rattle.std.proofs.Common.{◌≡◌, ℕ, suc, ◌+◌, ◌-◌, ◌<◌, ◌≤◌, nat_lt, true, List, length, take, sum, get_or, slice_get, Some, None, refl, sym, ap, subst, ◌∙◌, inl, inr, arith}
use Rattle.std.proofs.lemmas.Bool.{cases_lt, le-ltb}
use Rattle.std.proofs.lemmas.List.{take_all}
use Rattle.std.proofs.lemmas.List.Sums.{sum_by_more}
use Rattle.std.proofs.lemmas.Option.{none-some}
use Rattle.std.proofs.lemmas.Slice.Zip.{length-zip}
use Rattle.col_common.specs.Ascending.{differences}
use Rattle.col_common.specs.Reading.{only_if}
use Rattle.col_model.specs.Index.{RowSet, run_rows, runs_of}
use Rattle.col_model.specs.Positions.{rank}
use Rattle.col_model.proofs.RowRunTests.{runs_from, are_runs-parts, are_runs-first}
use Rattle.col_model.proofs.RowRunJoins.{runs_of-run_rows}
use Rattle.col_index.specs.Runs.{IsInPart, AreSummedRuns, rows_of_runs}
use Rattle.col_index.specs.Sets.{AreRows, holds, set_by}
use Rattle.col_index.proofs.RunRowLemmas.{runs_are_rows, starts_are_rows, length-run_rows, few_runs}
use Rattle.col_index.proofs.RunRankLemmas.{before_first, in_run}
use Rattle.col_index.proofs.RunSelectLemmas.{selected}
use Rattle.col_index.proofs.RunSumLemmas.{length-sums, sum_at}

-- ---- a row in a part of rows

-- the rank of one that is in
pub part_rank : (rows : List ℕ) (row before inside len : ℕ) → IsInPart rows row before inside len
    → only_if (nat_lt inside len) (before + inside) ≡ only_if (holds rows row) (rank rows row)
part_rank rows row before inside len p = elim (cases_lt inside len) [
  | inl within ↦
      ap (λ b. only_if b (before + inside)) (sym p.held) ∙ ap (only_if (holds rows row)) (omega (arith, p.count))
  | inr behind ↦
      let out = le-ltb inside len behind in
      ap (λ b. only_if b (before + inside)) out ∙ sym (ap (λ b. only_if b (rank rows row)) (p.held ∙ out))
]

-- ---- summed runs

module _ (s : RowSet) (before : List ℕ) (r : AreSummedRuns s before) where
  abbrev lengths : List ℕ
  lengths = differences before

  abbrev rows : List ℕ
  rows = run_rows s.rows lengths

  -- the starts and lengths are runs from row 0 on
  pub first_runs : runs_from s.num_rows 0 s.rows lengths ≡ true
  first_runs = sym (are_runs-first s.num_rows s.rows lengths) ∙ r.runs

  alike : length s.rows ≡ length lengths
  alike = (are_runs-parts s.num_rows s.rows lengths r.runs).alike

  -- their rows are rows
  pub summed_rows : AreRows (rows_of_runs s before)
  summed_rows = runs_are_rows s.num_rows s.rows lengths r.runs

  -- the starts are rows
  pub summed_starts : AreRows s
  summed_starts = starts_are_rows s.num_rows s.rows lengths r.runs

  -- and so there is a set of them
  pub set_of_starts : set_by s.num_rows s.rows ≡ Some s
  set_of_starts = ap (λ b. only_if b s) summed_starts

  -- starts of runs are never refused as rows
  pub starts_set : set_by s.num_rows s.rows ≡ None → ⊥
  starts_set none = none-some s (sym none ∙ set_of_starts)

  -- there is one sum more than runs
  pub summed_long : length before ≡ suc (length s.rows)
  summed_long = ap length r.sums ∙ length-sums 0 lengths ∙ ap suc (sym alike)

  -- what stands before a run
  pub summed_at : (k : ℕ) → k ≤ length s.rows → get_or before k 0 ≡ sum (take k lengths)
  summed_at k h = ap (λ bs. get_or bs k 0) r.sums ∙ sum_at 0 k lengths (omega (arith, alike)) ∙ omega arith

  -- the length of a run is how far the next sum is above its own
  pub summed_next : (k : ℕ) → k < length s.rows → get_or before (k + 1) 0 ≡ get_or before k 0 + get_or lengths k 0
  summed_next k h = omega (
    arith,
    summed_at (k + 1) (omega arith),
    summed_at k (omega arith),
    sum_by_more (λ (n : ℕ). n) lengths k 0 (omega (arith, alike)),
  )

  -- the last sum is the number of rows
  pub summed_all : get_or before (length s.rows) 0 ≡ length rows
  summed_all =
      summed_at (length s.rows) (omega arith) ∙ ap (λ n. sum (take n lengths)) alike
      ∙ ap sum (take_all (length lengths) lengths (omega arith))
      ∙ sym (length-run_rows s.num_rows 0 s.rows lengths first_runs)

  -- there are no more runs than rows
  pub summed_runs_few : length s.rows ≤ length rows
  summed_runs_few = few_runs s.num_rows 0 s.rows lengths first_runs

  -- the runs of the rows are these runs
  pub summed_runs : length (runs_of rows) ≡ length s.rows
  summed_runs =
      ap length (runs_of-run_rows s.num_rows s.rows lengths r.runs)
      ∙ length-zip s.rows lengths ∙ omega (arith, alike)

  -- a row before the first start
  pub part_none : (row : ℕ) → 0 ≡ rank s.rows (row + 1) → IsInPart rows row 0 (row - 0) 0
  part_none row h =
      let same : row ≡ row - 0 = omega arith in
      subst (λ inside. IsInPart rows row 0 inside 0) same (before_first s.num_rows 0 row s.rows lengths first_runs h)

  -- a row at or behind a start
  pub part_some : (row k start before_it next : ℕ) → suc k ≡ rank s.rows (row + 1) → k < length s.rows
      → start ≡ get_or s.rows k 0 → before_it ≡ get_or before k 0 → next ≡ get_or before (k + 1) 0
      → (start ≤ row) × IsInPart rows row before_it (row - start) (next - before_it)
  part_some row k start before_it next h within st su ne =
      let found = in_run s.num_rows 0 row k s.rows lengths first_runs h in
      let len : next - before_it ≡ get_or lengths k 0 = omega (arith, summed_next k within) in
      let place : before_it ≡ sum (take k lengths) = su ∙ summed_at k (omega arith) in
      (omega (arith, found.0), rw (len, st, place) found.1)

  -- the same by how many starts are at or before the row
  pub part_last : (row count start : ℕ) → 0 < count → count ≡ rank s.rows (row + 1) → count ≤ length s.rows
      → start ≡ get_or s.rows (count - 1) 0
      → (start ≤ row)
      × IsInPart rows row (get_or before (count - 1) 0) (row - start) (get_or before count 0 - get_or before (count - 1) 0)
  part_last row count start some h few st =
      let next : count ≡ count - 1 + 1 = omega arith in
      part_some row (count - 1) start (get_or before (count - 1) 0) (get_or before count 0) (omega (arith, h)) (omega arith) st refl
      (ap (λ k. get_or before k 0) next)

  -- the sums rise
  pub summed_rise : (count : ℕ) → 0 < count → count ≤ length s.rows → get_or before (count - 1) 0 ≤ get_or before count 0
  summed_rise count some few =
      let next : count - 1 + 1 ≡ count = omega arith in
      let above = summed_next (count - 1) (omega arith) in
      omega (arith, above, ap (λ k. get_or before k 0) next)

  -- the row of a rank
  pub row_selected : (k rank start before_it next : ℕ) → k < length s.rows → start ≡ get_or s.rows k 0
      → before_it ≡ get_or before k 0 → next ≡ get_or before (k + 1) 0 → before_it ≤ rank → rank < next
      → slice_get rows rank ≡ Some (start + (rank - before_it))
  row_selected k rank start before_it next within st su ne low high =
      let sum_of = summed_at k (omega arith) in
      let more = summed_next k within in
      selected s.num_rows 0 k rank s.rows lengths first_runs within (omega (arith, sum_of)) (omega (arith, sum_of, more))
      ∙ ap Some (omega (arith, sum_of))
