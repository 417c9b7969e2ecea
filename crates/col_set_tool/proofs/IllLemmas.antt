-- What a run leaves of which a step was refused.
use Rattle.std.proofs.Common.{◌≡◌, ◌≤◌, ◌⊎◌, ◌+◌, ◌∙◌, inl, inr, ℕ, zero, List, [], ◌∷◌, Some, Result, Ok, Err, IfSome, Contains, sym, ap, subst, arith}
use Rattle.std.specs.Prelude.{IfErr}
use Rattle.col_common.specs.Causes.{Rose}
use Rattle.col_common.specs.Outside.{SeenSink, AppendsNothing, Faulted, IsAtEnd, TakesAtMost, Told}
use Rattle.col_common.specs.Refused.{code_of}
use Rattle.col_common.specs.declared.error.ColumnarError.{ColumnarError}
use Rattle.col_common.specs.declared.error.ColumnarError.TheVariants.{WriteFault}
use Rattle.col_disk.specs.Disks.{SeenDisk}
use Rattle.col_model.specs.Refusal.{Refusal, status_of}
use Rattle.col_headline.specs.Headline.{CutShort, WholeFile}
use Rattle.col_program.specs.Outcome.{Outcome, IsDone, max_script_length, outcome_status}
use Rattle.col_segments.specs.Segments.{HeldTable}
use Rattle.col_set.specs.Held.{held_by}
use Rattle.col_set.specs.Sets.{SeenSet, EachStands, OpensSet}
use Rattle.col_set_run.specs.Outcome.{final_table, held_before}
use Rattle.col_set_run.specs.Running.{IsStepAnswer, step_statuses}
use Rattle.col_set_script.specs.SetScripts.{SetStep}
use Rattle.col_set_tool.specs.Runs.{IfBothTold, IsMadeOne, RunsWhole}
use Rattle.col_set_tool.specs.SetOutcome.{outcome_on, readable, set_outcome, steps_in}
use Rattle.col_set_tool.specs.SetRuns.{HoldsFinal, RunsSet}
use Rattle.col_writer_columns.specs.Answers.{answer_of}
use Rattle.col_headline.proofs.StatusLemmas.{status-bounds}
use Rattle.col_set_tool.proofs.StatusLemmas.{both-told, if-told, no-status-of}
use Rattle.col_set_run.proofs.StayLemmas.{not-fault}
use Rattle.col_common.proofs.OnOkLemmas.{same-error}
use Rattle.col_set_tool.proofs.RanLemmas.{IsRun, text-is, outcome-then, steps-then, since, moments-then, starts, holds-set, holds-final, IfDone, later-then, held-is}
use Rattle.col_set_tool.proofs.RefusalLemmas.{IsRan, among-all, few, ill-bad, ill-none, is-fault, is-memory, is-refusal, known-then, no-six, no-status}

module _ {D : Type 0} (see : D → SeenDisk) (disk : D) (left left' : Told) (faults faults' : ℕ)
    (own : List ℕ) (xs : List SetStep) (told : IfSome left (λ bytes. bytes ≡ own)) (is : readable own ≡ Ok xs)
    (taken : TakesAtMost (max_script_length + 1) left left') (at_end : IsAtEnd left') (read_later : faults ≤ faults')
    (set new : SeenSet D) (opens : OpensSet see disk (Ok set)) (output output' report report' : SeenSink)
    (r : Result (Unit {0}) ColumnarError) (w : RunsWhole see set new output output' report report' xs r)
    (e : ColumnarError) (ill : r ≡ Err e) where
  run : IsRun see disk left own xs set new output output' report report' r
  run = record { told = told; is = is; opens = opens; ran = w }

  of-ran : IsRan (final_table set.held xs) e
  of-ran = subst (λ (r : Result (Unit {0}) ColumnarError). IfErr r (IsRan (final_table set.held xs))) ill w.refused

  known-as : Contains step_statuses (code_of e)
  known-as = subst IsStepAnswer ill w.known

  stands-before : (bytes text : List ℕ) → (see disk).told ≡ Some bytes → left ≡ Some text → (hs : List HeldTable) (why : Refusal)
      → held_by bytes ≡ Some hs → code_of e ≡ status_of why → EachStands (see new.disk).images (held_before hs (steps_in text))
  stands-before bytes text b t hs why held same =
      let own = is-refusal (final_table set.held xs) e of-ran (λ three. omega (arith, three, same, (status-bounds why).0))
      (λ five. omega (arith, five, same, (status-bounds why).0)) in
      let answer = ill ∙ ap Err own.1 in
      let works = w.works (λ fault. not-fault own.0 (same-error (answer_of own.0) WriteFault (sym answer ∙ fault))) in
      let now = since run (EachStands (see new.disk).images new.held) bytes b (w.now works) in
      rw (held-is run bytes hs b held, steps-then run text t) (subst (EachStands (see new.disk).images) (w.kept own.0 answer) now)

  pub ran-ill : RunsSet (see disk) (see new.disk) left left' faults faults' output output' report report' (code_of e)
  ran-ill = record {
    any_moment = both-told (see disk).told left _ (moments-then run);
    from_start = both-told (see disk).told left _ (starts run);
    no_set_stays = if-told (see disk).told _ (λ bytes b none. absurd (holds-set run bytes b none));
    untouched = λ own. absurd (ill-bad (final_table set.held xs) e of-ran own);
    no_step = λ own. absurd (ill-none (final_table set.held xs) e of-ran known-as own);
    headline = λ zero. absurd (no-status (final_table set.held xs) e 0 (omega arith) (λ e. cc) of-ran zero);
    held = λ zero. absurd (no-status (final_table set.held xs) e 0 (omega arith) (λ e. cc) of-ran zero);
    known = IfDone run (λ o. Contains (outcome_status o ∷ 3 ∷ 4 ∷ 5 ∷ []) (code_of e)) (known-then set.held xs e of-ran);
    among = among-all (code_of e) known-as;
    no_set = λ six. absurd (no-six (final_table set.held xs) e known-as six);
    bad_script = if-told left _ (λ text given status bad. absurd (no-status-of text own xs status (text-is run text given) is bad));
    good_script = if-told left _ (λ text given ys good.
        (few (final_table set.held xs) e 20 (omega arith) of-ran, few (final_table set.held xs) e 21 (omega arith) of-ran));
    refused = both-told (see disk).told left _ (λ bytes text b t hs why held final same. stands-before bytes text b t hs why held same);
    read_fault = λ four. absurd (no-status (final_table set.held xs) e 4 (omega arith) (λ e. cc) of-ran four);
    write_fault = λ five. rose (w.write_fault (ill ∙ ap Err (is-fault (final_table set.held xs) e of-ran five)));
    cut_short = λ five. cut (w.cut_short (ill ∙ ap Err (is-fault (final_table set.held xs) e of-ran five)));
    memory = λ three. whole (w.memory (ill ∙ ap Err (is-memory (final_table set.held xs) e of-ran three)));
    nothing = λ zero three five. let own = is-refusal (final_table set.held xs) e of-ran three five in w.nothing own.0 (ill ∙ ap Err own.1);
    grown = w.grown;
    later = (read_later, later-then run, w.later.1, w.later.2);
    tells = w.tells ∙ opens.tells;
    taken = taken;
    ended = λ three four long. at_end;
  }
    where
      rose : Rose (see set.disk).faults (see new.disk).faults ⊎ (Faulted output output' ⊎ Faulted report report')
          → Rose (see disk).faults (see new.disk).faults ⊎ (Faulted output output' ⊎ Faulted report report')
      rose (inl disk_rose) = inl (omega (arith, opens.later, disk_rose))
      rose (inr sinks) = inr sinks

      both : (P : Outcome → Type 0) → P (outcome_on set.held xs) → IsMadeOne set.held new.held new.failed xs
          → IfBothTold (see disk).told left (λ bytes text. P (set_outcome bytes text) × HoldsFinal (see new.disk).images bytes text)
      both P h made =
          both-told (see disk).told left _
          (λ bytes text b t. (subst P (sym (outcome-then run bytes text b t)) h, holds-final run made bytes text b t))

      cut : (Rose (see set.disk).faults (see new.disk).faults × AppendsNothing output output' × AppendsNothing report report')
          ⊎ (IsDone (outcome_on set.held xs) (CutShort output output' report report') × IsMadeOne set.held new.held new.failed xs)
          → (Rose (see disk).faults (see new.disk).faults × AppendsNothing output output' × AppendsNothing report report')
          ⊎ IfBothTold (see disk).told left (λ bytes text. IsDone (set_outcome bytes text) (CutShort output output' report report')
          × HoldsFinal (see new.disk).images bytes text)
      cut (inl (disk_rose, none, nothing)) = inl (omega (arith, opens.later, disk_rose), none, nothing)
      cut (inr (part, made)) = inr (both (λ o. IsDone o (CutShort output output' report report')) part made)

      whole : AppendsNothing report report' × (AppendsNothing output output'
          ⊎ (IsDone (outcome_on set.held xs) (WholeFile output output') × IsMadeOne set.held new.held new.failed xs))
          → AppendsNothing report report' × (AppendsNothing output output'
          ⊎ IfBothTold (see disk).told left (λ bytes text. IsDone (set_outcome bytes text) (WholeFile output output')
          × HoldsFinal (see new.disk).images bytes text))
      whole (none, inl nothing) = (none, inl nothing)
      whole (none, inr (file, made)) = (none, inr (both (λ o. IsDone o (WholeFile output output')) file made))
