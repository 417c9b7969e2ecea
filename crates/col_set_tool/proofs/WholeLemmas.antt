-- What a run over an open set leaves, by where it ends.
use Rattle.std.proofs.Common.{◌≡◌, ◌⊎◌, ◌∙◌, inl, inr, ℕ, Bool, true, false, List, [], take, Result, Ok, Err, refl, sym, ap, arith}
use Rattle.col_common.specs.Outside.{SeenSink, Appends, AppendsNothing, Grows}
use Rattle.col_common.specs.declared.error.ColumnarError.{ColumnarError}
use Rattle.col_common.specs.declared.error.ColumnarError.TheVariants.{OutOfMemory, WriteFault}
use Rattle.col_common.proofs.OnOkLemmas.{same-error}
use Rattle.col_common.proofs.SerializingLemmas.{appends_none}
use Rattle.col_disk.specs.Disks.{SeenDisk}
use Rattle.col_disk.proofs.Moments.{leaves_weaker}
use Rattle.col_set.specs.Sets.{SeenSet, WritesBytes}
use Rattle.col_set.proofs.LeaveLemmas.{if_told}
use Rattle.col_set_run.specs.Outcome.{final_table, reached}
use Rattle.col_set_run.specs.Running.{IsReached, RunsSteps}
use Rattle.col_set_run.proofs.StayLemmas.{not-memory}
use Rattle.col_set_script.specs.SetScripts.{SetStep}
use Rattle.col_set_tool.specs.Runs.{IsAfterSome, RunsWhole}
use Rattle.col_set_tool.proofs.FinalLemmas.{reached-some, steps-refused}
use Rattle.col_writer_columns.specs.Answers.{answer_of, MayRefuse}

-- whatever bytes were added, what was there stays in front
grown-by : (a b : SeenSink) (bytes : List ℕ) → Appends a b bytes → Grows a b
grown-by a b bytes is = (bytes, is)

pub grown-none : (a b : SeenSink) → AppendsNothing a b → Grows a b
grown-none a b same = ([], same ∙ appends_none a)

-- so it is behind a write
pub grown : (a b : SeenSink) (r : Result (Unit {0}) ColumnarError) (bytes : List ℕ) → WritesBytes a b r bytes → Grows a b
grown a b (Ok fine) bytes w = grown-by a b bytes w.ok
grown a b (Err e) bytes w = by w.causes
  where
    by : (e ≡ OutOfMemory) ⊎ (e ≡ WriteFault) → Grows a b
    by (inl memory) = grown-none a b (w.memory (ap Err memory))
    by (inr fault) =
        let part = (w.cut_short (ap Err fault)).0 in
        grown-by a b (take part.0 bytes) part.1

-- a set that no fault has ended works
pub unfailed : {P : Type 0} (b : Bool) → (b ≡ true → P) → (P → ⊥) → b ≡ false
unfailed true h other = absurd (other (h refl))
unfailed false h other = refl

module _ {D : Type 0} (see : D → SeenDisk) where
  -- ---- a step is refused

  pub steps-stop : (old new : SeenSet D) (output report : SeenSink) (before after : List ℕ) (xs : List SetStep) (e : ColumnarError)
      → RunsSteps see old new before after xs (Err e) → RunsWhole see old new output output report report xs (Err e)
  steps-stop old new output report before after xs e s = record {
    done = tt;
    held = tt;
    refused = by s.refused;
    known = s.known;
    kept = s.kept;
    nothing = λ r same. (refl, refl);
    cut_short = λ fault. inl (s.write_fault fault, refl, refl);
    write_fault = λ fault. inl (s.write_fault fault);
    memory = λ memory. (refl, inl refl);
    grown = (grown-none output output refl, grown-none report report refl);
    later = (s.later, omega arith, omega arith);
    tells = s.tells;
    any_moment =
        if_told (see old.disk).told
        (λ _ run. leaves_weaker (IsReached old.held xs) (IsAfterSome old.held xs) run (reached-some old.held xs)) s.any_moment;
    works = λ other. unfailed new.failed s.failed.0 other;
    now = s.now;
  }
    where
      by : (e ≡ WriteFault) ⊎ MayRefuse (reached old.held xs) e → (e ≡ WriteFault) ⊎ MayRefuse (final_table old.held xs) e
      by (inl fault) = inl fault
      by (inr h) = inr (steps-refused old.held xs e h)

  module _ (old mid : SeenSet D) (xs : List SetStep) (before found : List ℕ) (s : RunsSteps see old mid before found xs (Ok tt)) where
    pub works-still : mid.failed ≡ false
    works-still = unfailed mid.failed s.failed.0 (λ fault. cc fault)

    -- ---- no memory for the line of the row count

    pub rows-stop : (output report : SeenSink) → RunsWhole see old mid output output report report xs (Err OutOfMemory)
    rows-stop output report = record {
      done = tt;
      held = tt;
      refused = inr (inl refl);
      known = (0, omega arith, refl);
      kept = λ r same. absurd (not-memory r (sym (same-error OutOfMemory (answer_of r) same)));
      nothing = λ r same. (refl, refl);
      cut_short = λ fault. absurd (cc fault);
      write_fault = λ fault. absurd (cc fault);
      memory = λ memory. (refl, inl refl);
      grown = (grown-none output output refl, grown-none report report refl);
      later = (s.later, omega arith, omega arith);
      tells = s.tells;
      any_moment =
          if_told (see old.disk).told
          (λ _ run. leaves_weaker (IsReached old.held xs) (IsAfterSome old.held xs) run (reached-some old.held xs)) s.any_moment;
      works = λ other. works-still;
      now = s.now;
    }
