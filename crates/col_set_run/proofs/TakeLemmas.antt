-- One step, by what it is.
use Rattle.std.proofs.Common.{◌≡◌, ◌⊎◌, inl, inr, ℕ, false, List, [], ◌∷◌, Result, Ok, Err, IfSome, refl, sym, subst}
use Rattle.std.specs.Prelude.{IfErr, OnOk}
use Rattle.col_common.specs.declared.error.ColumnarError.{ColumnarError}
use Rattle.col_common.specs.declared.error.ColumnarError.TheVariants.{OutOfMemory, WriteFault}
use Rattle.col_disk.specs.Disks.{SeenDisk}
use Rattle.col_model.specs.Refusal.{Refusal}
use Rattle.col_program.specs.Report.{Prints}
use Rattle.col_program.proofs.ReportLaws.{Prints-none}
use Rattle.col_program.specs.Script.{Segment}
use Rattle.col_script.specs.Segments.{Filled, filled}
use Rattle.col_set.specs.Compaction.{CompactsOrConflicts}
use Rattle.col_set.specs.Live.{compacted}
use Rattle.col_set.specs.Segments.{HeldTable, dropped}
use Rattle.col_set.specs.Sets.{SeenSet, ChangesSet, EachStands}
use Rattle.col_set_run.specs.Outcome.{after_step, line_of, step_lines, with_segment}
use Rattle.col_set_run.specs.Running.{IsStepAnswer, TakesStep}
use Rattle.col_set_run.proofs.KnownLemmas.{answer-known, step-allowed}
use Rattle.col_set_run.proofs.StayLemmas.{stays}
use Rattle.col_set_script.specs.SetScripts.{Lookup, SetStep, add, drop_rows, merge_all, find_rows}
use Rattle.col_writer_columns.specs.Answers.{MayRefuse}
use Rattle.col_set_script.specs.Steps.{add_filled, drop_filled, merge_filled, find_filled, filled_step}

module _ {D : Type 0} (see : D → SeenDisk) (old new : SeenSet D) (out : List ℕ) (result : Result (Unit {0}) ColumnarError)
    (conflicts : CompactsOrConflicts old.held) where
  -- a step that changes the set as it is to, and prints nothing
  takes-quietly : (x : SetStep) → ((hs : List HeldTable) → step_lines x hs ≡ []) → ChangesSet see old new result (after_step x old.held)
      → TakesStep see old new out out x result
  takes-quietly x quiet changes = record {
    changes = changes;
    lines = quietly result;
    known = known result changes.refused;
  }
    where
      quietly : (r : Result (Unit {0}) ColumnarError) → OnOk r (Prints out out (step_lines x old.held))
      quietly (Ok done) = subst (Prints out out) (sym (quiet old.held)) (Prints-none out)
      quietly (Err e) = tt

      known : (r : Result (Unit {0}) ColumnarError) → IfErr r (λ e. (e ≡ WriteFault) ⊎ MayRefuse (after_step x old.held) e) → IsStepAnswer r
      known (Ok done) h = tt
      known (Err e) h = answer-known (after_step x old.held) e (step-allowed x old.held conflicts) h

  pub takes-add : (f : Filled) → ((s : Segment) → filled s ≡ f → ChangesSet see old new result (with_segment s old.held))
      → (x : SetStep) → filled_step x ≡ add_filled f → TakesStep see old new out out x result
  takes-add f changes (add s) same = takes-quietly (add s) (λ hs. refl) (changes s (cc same))
  takes-add f changes (drop_rows ids) same = cc
  takes-add f changes merge_all same = cc
  takes-add f changes (find_rows l) same = cc

  pub takes-drop : (ids : List ℕ) → ChangesSet see old new result (dropped ids old.held) → (x : SetStep)
      → filled_step x ≡ drop_filled ids → TakesStep see old new out out x result
  takes-drop ids changes (add s) same = cc
  takes-drop ids changes (drop_rows own) same =
      takes-quietly (drop_rows own) (λ hs. refl)
      (subst (λ is. ChangesSet see old new result (dropped is old.held)) (let e : ids ≡ own = cc same in e) changes)
  takes-drop ids changes merge_all same = cc
  takes-drop ids changes (find_rows l) same = cc

  pub takes-compact : ChangesSet see old new result (compacted old.held) → (x : SetStep) → filled_step x ≡ merge_filled
      → TakesStep see old new out out x result
  takes-compact changes (add s) same = cc
  takes-compact changes (drop_rows ids) same = cc
  takes-compact changes merge_all same = takes-quietly merge_all (λ hs. refl) changes
  takes-compact changes (find_rows l) same = cc

module _ {D : Type 0} (see : D → SeenDisk) (set : SeenSet D) (before after : List ℕ) (result : Result (Unit {0}) ColumnarError)
    (conflicts : CompactsOrConflicts set.held) (works : set.failed ≡ false)
    (only : (c : List ℕ) → (see set.disk).images.left_since (see set.disk).images.clock c → (see set.disk).images.may_leave c)
    (stands : IfSome (see set.disk).told (λ _. EachStands (see set.disk).images set.held)) where
  pub takes-find : (l : Lookup) → OnOk result (Prints before after (line_of l set.held ∷ [])) → IfErr result (λ e. e ≡ OutOfMemory)
      → (x : SetStep) → filled_step x ≡ find_filled l → TakesStep see set set before after x result
  takes-find l prints wanting (add s) same = cc
  takes-find l prints wanting (drop_rows ids) same = cc
  takes-find l prints wanting merge_all same = cc
  takes-find l prints wanting (find_rows own) same = record {
    changes = stays see set works only stands result (Ok set.held) (ok result, refused result wanting);
    lines = subst (λ is. OnOk result (Prints before after (line_of is set.held ∷ []))) (let e : l ≡ own = cc same in e) prints;
    known = known result wanting;
  }
    where
      ok : (r : Result (Unit {0}) ColumnarError) → OnOk r (◌≡◌ {A = Result (List HeldTable) Refusal} (Ok set.held) (Ok set.held))
      ok (Ok done) = refl
      ok (Err e) = tt

      refused : (r : Result (Unit {0}) ColumnarError) → IfErr r (λ e. e ≡ OutOfMemory)
          → IfErr r (MayRefuse {A = List HeldTable} (Ok set.held))
      refused (Ok done) h = tt
      refused (Err e) h = inl h

      known : (r : Result (Unit {0}) ColumnarError) → IfErr r (λ e. e ≡ OutOfMemory) → IsStepAnswer r
      known (Ok done) h = tt
      known (Err e) h = answer-known {A = List HeldTable} (Ok set.held) e tt (inr (inl h))
