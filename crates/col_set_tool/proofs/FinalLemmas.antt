-- The table that a set is made in the end.
use Rattle.std.proofs.Common.{◌≡◌, ◌∙◌, inl, inr, ℕ, List, [], ◌∷◌, ◌++◌, length, Result, Ok, Err, refl, sym, ap, arith}
use Rattle.std.proofs.lemmas.List.{append-nil, take_all}
use Rattle.std.proofs.lemmas.List.FromFn.{length-range_with_len}
use Rattle.std.proofs.lemmas.List.Sums.{sum_by-cons}
use Rattle.col_common.specs.declared.error.ColumnarError.{ColumnarError}
use Rattle.col_model.specs.Refusal.{Refusal, ◌>>=◌}
use Rattle.col_model.proofs.RefusalLaws.{bind-ok, same_Ok, err_not_ok}
use Rattle.col_model.proofs.ConflictLaws.{same_Err}
use Rattle.col_model.specs.Table.{Table}
use Rattle.col_program.specs.Outcome.{as_file, done}
use Rattle.col_program.specs.Report.{lines_text, rows_line}
use Rattle.col_segments.specs.Live.{compacted, live, merged_alive}
use Rattle.col_segments.specs.Segments.{HeldTable, alive_count, all_alive}
use Rattle.col_segments.proofs.LiveLemmas.{compacted-live, live-length}
use Rattle.col_set.specs.Sets.{IsBeforeOrGiven}
use Rattle.col_set_run.specs.Outcome.{final_table, found_lines, held_before, reached}
use Rattle.col_set_run.specs.Running.{IsReached}
use Rattle.col_set_run.proofs.ReachedLemmas.{before-more}
use Rattle.col_set_script.specs.SetScripts.{SetStep}
use Rattle.col_set_tool.specs.SetOutcome.{outcome_of_table, outcome_on}
use Rattle.col_set_tool.specs.Runs.{IsAfterSome}
use Rattle.col_writer_columns.specs.Answers.{MayRefuse}

-- a compaction that isn't refused has the one table
pub compacted-is : (hs ks : List HeldTable) → compacted hs ≡ Ok ks → (t : Table) × (merged_alive hs ≡ Ok t) × (ks ≡ all_alive t ∷ [])
compacted-is hs ks is =
    let step = bind-ok (merged_alive hs) (λ t. Ok (all_alive t ∷ [])) ks is in
    (step.0, step.1, sym (same_Ok (all_alive step.0 ∷ []) ks step.2))

-- a compaction is refused as the merge is
pub compacted-refused : (hs : List HeldTable) (r : Refusal) → compacted hs ≡ Err r → merged_alive hs ≡ Err r
compacted-refused hs r = by (merged_alive hs)
  where
    by : (m : Result Table Refusal) → (m >>= λ t. Ok (all_alive t ∷ [])) ≡ Err r → m ≡ Err r
    by (Ok t) e = absurd (err_not_ok r (all_alive t ∷ []) (sym e))
    by (Err own) e = ap Err (same_Err own r e)

-- the rows are counted by the table
pub rows-counted : (hs : List HeldTable) (t : Table) → merged_alive hs ≡ Ok t → alive_count hs ≡ t.row_count
rows-counted hs t is =
    let whole = length-range_with_len 0 t.row_count in
    let alone = sum_by-cons (λ (h : HeldTable). length h.alive) (all_alive t) [] in
    let same = ap length (compacted-live hs t is) in
    let one = live-length (all_alive t ∷ []) in
    omega (arith, whole, alone, same, one, live-length hs)

module _ (hs mid : List HeldTable) (xs : List SetStep) (is : reached hs xs ≡ Ok mid) where
  -- the tables before a refusal are those that the steps reached
  pub before-end : held_before hs xs ≡ mid
  before-end = ap (held_before hs) (sym (append-nil xs)) ∙ before-more hs mid xs [] is

  pub final-is : final_table hs xs ≡ merged_alive mid
  final-is = ap (λ r. r >>= merged_alive) is

  -- the outcome of a table
  pub outcome-is : (t : Table) → merged_alive mid ≡ Ok t
      → outcome_on hs xs ≡ done (as_file t) (lines_text (found_lines hs xs ++ rows_line t.row_count ∷ []))
  outcome-is t made = ap (outcome_of_table hs xs) (final-is ∙ made)

  -- bytes that stand for the tables from before the end, or for those of the end, hold the rows behind all steps
  pub held-at-end : (c : List ℕ) → IsBeforeOrGiven mid (compacted mid) c → IsAfterSome hs xs c
  held-at-end c (inl before) = record {
    steps = length xs;
    within = omega arith;
    after = mid;
    is = ap (reached hs) (take_all (length xs) xs (omega arith)) ∙ is;
    held = mid;
    bytes = before;
    same = refl;
  }
  held-at-end c (inr (after, makes, given)) =
      let t = compacted-is mid after makes in
      record {
        steps = length xs;
        within = omega arith;
        after = mid;
        is = ap (reached hs) (take_all (length xs) xs (omega arith)) ∙ is;
        held = after;
        bytes = given;
        same = ap live t.2 ∙ compacted-live mid t.0 t.1;
      }

-- a refusal of the steps is the first one of all
pub steps-refused : (hs : List HeldTable) (xs : List SetStep) (e : ColumnarError) → MayRefuse (reached hs xs) e
    → MayRefuse (final_table hs xs) e
steps-refused hs xs e (inl memory) = inl memory
steps-refused hs xs e (inr (r, is, answer)) = inr (r, ap (λ s. s >>= merged_alive) is, answer)

-- what was reached holds the same rows
pub reached-some : (hs : List HeldTable) (xs : List SetStep) (c : List ℕ) → IsReached hs xs c → IsAfterSome hs xs c
reached-some hs xs c r = record {
  steps = r.steps;
  within = r.within;
  after = r.after;
  is = r.is;
  held = r.after;
  bytes = r.held;
  same = refl;
}
