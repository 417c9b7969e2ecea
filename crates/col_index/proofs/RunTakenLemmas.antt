-- The test of runs, one after another.
use Rattle.std.proofs.Common.{◌≡◌, ℕ, ◌+◌, ◌<◌, ◌≤◌, ◌&&◌, nat_lt, nat_le, Bool, true, List, ◌∷◌, length, drop, get_or, Some, None, sym, ap, ◌∙◌, arith}
use Rattle.std.proofs.lemmas.Bool.{and_parts, leb-true}
use Rattle.std.proofs.lemmas.List.{drop_more}
use Rattle.col_common.specs.Ascending.{differences}
use Rattle.col_common.specs.Reading.{only_if}
use Rattle.col_model.specs.Index.{RowSet, run_rows, are_runs}
use Rattle.col_model.proofs.ItemLaws.{only_if-some, only_if-none}
use Rattle.col_model.proofs.RowRunTests.{runs_from}
use Rattle.col_index.specs.Runs.{run_sums, sums_from, runs_by, rows_of_runs, AreSummedRuns}
use Rattle.col_index.proofs.RunSumLemmas.{differences-sums}

-- the run at a place is let through
pub record IsRunTaken (n next : ℕ) (ss ls : List ℕ) (at end len : ℕ) : Type 0 where
  pub length_read : len ≡ get_or ls at 0
  pub start_read : get_or ss at 0 + len ≡ end
  pub behind : next + len ≤ end
  pub within : end ≤ n
  pub rest : runs_from n next (drop at ss) (drop at ls) ≡ runs_from n (end + 1) (drop (at + 1) ss) (drop (at + 1) ls)

-- one more run
module _ (n next : ℕ) (ss ls : List ℕ) (at : ℕ) (in_starts : at < length ss) (in_lengths : at < length ls) where
  abbrev start : ℕ
  start = get_or ss at 0

  abbrev len : ℕ
  len = get_or ls at 0

  abbrev fits : Bool
  fits = nat_le next start && nat_lt 0 len && nat_le (start + len) n

  abbrev read : ℕ × ℕ
  read = (start + len, len)

  tested : runs_from n next (drop at ss) (drop at ls) ≡ (fits && runs_from n (start + len + 1) (drop (at + 1) ss) (drop (at + 1) ls))
  tested =
      ap (λ l. runs_from n next l (drop at ls)) (drop_more ss at 0 in_starts)
      ∙ ap (runs_from n next (start ∷ drop (at + 1) ss)) (drop_more ls at 0 in_lengths)

  -- a run that is let through begins at or behind the next row that may come, and ends by the count
  pub run_taken : (taken : ℕ × ℕ) → Some taken ≡ only_if fits read → IsRunTaken n next ss ls at taken.0 taken.1
  run_taken taken e =
      let told = only_if-some fits taken read e in
      let ends = and_parts (nat_le next start && nat_lt 0 len) (nat_le (start + len) n) told.0 in
      let from = leb-true next start (and_parts (nat_le next start) (nat_lt 0 len) ends.0).0 in
      let upto = leb-true (start + len) n ends.1 in
      let end_is : taken.0 ≡ start + len = ap (λ (p : ℕ × ℕ). p.0) told.1 in
      let length_is : taken.1 ≡ len = ap (λ (p : ℕ × ℕ). p.1) told.1 in
      record {
        length_read = length_is;
        start_read = omega arith;
        behind = omega arith;
        within = omega arith;
        rest =
            tested ∙ ap (λ b. b && runs_from n (start + len + 1) (drop (at + 1) ss) (drop (at + 1) ls)) told.0
            ∙ ap (λ k. runs_from n (k + 1) (drop (at + 1) ss) (drop (at + 1) ls)) (sym end_is);
      }

-- ---- what the sums of runs come to

-- numbers that are no runs have no rows
pub runs_by-none : (n : ℕ) (ss ls : List ℕ) → run_sums n ss ls ≡ None → runs_by n ss ls ≡ None
runs_by-none n ss ls e =
    ap (λ b. only_if b (runs n ss ls)) (only_if-none (are_runs n ss ls) (sums_from 0 ls) (sym e))
  where
    runs : ℕ → List ℕ → List ℕ → RowSet
    runs n ss ls = record { num_rows = n; rows = run_rows ss ls }

-- runs with their sums
module _ (n : ℕ) (ss ls before : List ℕ) (e : run_sums n ss ls ≡ Some before) where
  told : (are_runs n ss ls ≡ true) × (before ≡ sums_from 0 ls)
  told = only_if-some (are_runs n ss ls) before (sums_from 0 ls) (sym e)

  apart : differences before ≡ ls
  apart = ap differences told.1 ∙ differences-sums 0 ls

  abbrev starts : RowSet
  starts = record { num_rows = n; rows = ss }

  -- are summed
  pub runs_summed : AreSummedRuns starts before
  runs_summed = record {
    runs = ap (are_runs n ss) apart ∙ told.0;
    sums = told.1 ∙ ap (sums_from 0) (sym apart);
  }

  -- and have their rows
  pub runs_by-summed : runs_by n ss ls ≡ Some (rows_of_runs starts before)
  runs_by-summed =
      ap (λ b. only_if b (rows_of ls)) told.0 ∙ ap (λ lengths. Some (rows_of lengths)) (sym apart)
    where
      rows_of : List ℕ → RowSet
      rows_of lengths = record { num_rows = n; rows = run_rows ss lengths }
