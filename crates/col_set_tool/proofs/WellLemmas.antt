-- What a run leaves whose steps were all taken.
use Rattle.std.proofs.Common.{◌≡◌, ◌≤◌, ◌+◌, ◌∙◌, ℕ, suc, zero, List, [], ◌∷◌, Result, Ok, Err, IfSome, Contains, refl, sym, ap, subst, arith}
use Rattle.std.specs.Prelude.{OnOk}
use Rattle.col_common.specs.Outside.{SeenSink, IsAtEnd, TakesAtMost, Told}
use Rattle.col_common.specs.declared.error.ColumnarError.{ColumnarError}
use Rattle.col_common.specs.declared.error.ColumnarError.TheVariants.{WriteFault}
use Rattle.col_disk.specs.Disks.{SeenDisk}
use Rattle.col_model.specs.Table.{Table}
use Rattle.col_headline.specs.Headline.{Merged}
use Rattle.col_program.specs.Outcome.{Outcome, Output, IsDone, done, max_script_length, outcome_status, refused}
use Rattle.col_segments.specs.Segments.{all_alive}
use Rattle.col_set.specs.Sets.{SeenSet, OpensSet}
use Rattle.col_set_run.specs.Outcome.{final_table}
use Rattle.col_set_script.specs.SetScripts.{SetStep}
use Rattle.col_set_tool.specs.Runs.{IsMadeOne, RunsWhole}
use Rattle.col_set_tool.specs.SetOutcome.{outcome_on, readable}
use Rattle.col_set_tool.specs.SetRuns.{RunsSet}
use Rattle.col_headline.proofs.StatusLemmas.{status-bounds}
use Rattle.col_set_tool.proofs.StatusLemmas.{both-told, if-told, no-status-of}
use Rattle.col_set_tool.proofs.RanLemmas.{IsRun, text-is, outcome-then, moments-then, starts, holds-set, holds-final, IfDone, later-then}

-- an outcome that is done has the status 0
done-zero : (o : Outcome) (P : Output → List ℕ → Type 0) → IsDone o P → outcome_status o ≡ 0
done-zero (done output lines) P is = refl
done-zero (refused status) P is = absurd is

module _ {D : Type 0} (see : D → SeenDisk) (disk : D) (left left' : Told) (faults faults' : ℕ)
    (own : List ℕ) (xs : List SetStep) (told : IfSome left (λ bytes. bytes ≡ own)) (is : readable own ≡ Ok xs)
    (taken : TakesAtMost (max_script_length + 1) left left') (at_end : IsAtEnd left') (read_later : faults ≤ faults')
    (set new : SeenSet D) (opens : OpensSet see disk (Ok set)) (output output' report report' : SeenSink)
    (r : Result (Unit {0}) ColumnarError) (w : RunsWhole see set new output output' report report' xs r) where
  run : IsRun see disk left own xs set new output output' report report' r
  run = record { told = told; is = is; opens = opens; ran = w }

  -- all steps were taken, and both sinks have what goes to them
  pub ran-well : r ≡ Ok tt → RunsSet (see disk) (see new.disk) left left' faults faults' output output' report report' 0
  ran-well ok = record {
    any_moment = both-told (see disk).told left _ (moments-then run);
    from_start = both-told (see disk).told left _ (starts run);
    no_set_stays = if-told (see disk).told _ (λ bytes b none. absurd (holds-set run bytes b none));
    untouched = λ own. absurd (zero-bad own);
    no_step = λ own. absurd (zero-none own);
    headline = λ zero. IfDone run (λ o. IsDone o (Merged output output' report report')) done;
    held = λ zero. both-told (see disk).told left _ (holds-final run made);
    known = both-told (see disk).told left _
        (λ bytes text b t. (0, omega arith, ap outcome_status (outcome-then run bytes text b t) ∙ zero-of));
    among = (0, omega arith, refl);
    no_set = λ six. absurd (omega (arith, six));
    bad_script = if-told left _ (λ text given status bad. absurd (no-status-of text own xs status (text-is run text given) is bad));
    good_script = if-told left _ (λ text given ys good. ((λ e. omega (arith, e)), (λ e. omega (arith, e))));
    refused = both-told (see disk).told left _ (λ bytes text b t hs r held final same. absurd (omega (arith, same, (status-bounds r).0)));
    read_fault = λ four. absurd (omega (arith, four));
    write_fault = λ five. absurd (omega (arith, five));
    cut_short = λ five. absurd (omega (arith, five));
    memory = λ three. absurd (omega (arith, three));
    nothing = λ zero three five. absurd (zero refl);
    grown = w.grown;
    later = (read_later, later-then run, w.later.1, w.later.2);
    tells = w.tells ∙ opens.tells;
    taken = taken;
    ended = λ three four long. at_end;
  }
    where
      done : IsDone (outcome_on set.held xs) (Merged output output' report report')
      done = subst (λ (r : Result (Unit {0}) ColumnarError). OnOk r
          (IsDone (outcome_on set.held xs) (Merged output output' report report'))) ok w.done

      zero-of : outcome_status (outcome_on set.held xs) ≡ 0
      zero-of = done-zero (outcome_on set.held xs) (Merged output output' report report') done

      made : IsMadeOne set.held new.held new.failed xs
      made = (
        w.works (λ fault. let e : ◌≡◌ {A = Result (Unit {0}) ColumnarError} (Ok tt) (Err WriteFault) = sym ok ∙ fault in cc),
        subst (λ (r : Result (Unit {0}) ColumnarError).
            OnOk r ((u : Table) → final_table set.held xs ≡ Ok u → new.held ≡ all_alive u ∷ [])) ok w.held,
      )

      zero-bad : Contains {X = ℕ} (20 ∷ 21 ∷ []) 0 → ⊥
      zero-bad (zero, within, is) = omega (arith, is)
      zero-bad (suc zero, within, is) = omega (arith, is)
      zero-bad (suc (suc n), within, is) = omega (arith, within)

      zero-none : Contains {X = ℕ} (4 ∷ 6 ∷ []) 0 → ⊥
      zero-none (zero, within, is) = omega (arith, is)
      zero-none (suc zero, within, is) = omega (arith, is)
      zero-none (suc (suc n), within, is) = omega (arith, within)
