-- Steps of a script that are made one after another.
use Rattle.std.proofs.Common.{◌≡◌, ◌⊎◌, inl, inr, ℕ, ◌≤◌, Bool, true, false, List, [], ◌∷◌, ◌++◌, map, length, take, Some, None, Result, Ok, Err, IfSome, refl, sym, ap, subst, ◌∙◌, arith, length-append, append_assoc}
use Rattle.std.proofs.lemmas.List.{append-nil, take_at}
use Rattle.col_common.specs.Causes.{Rose}
use Rattle.col_common.specs.Outside.{Told}
use Rattle.col_common.specs.declared.error.ColumnarError.{ColumnarError}
use Rattle.col_common.specs.declared.error.ColumnarError.TheVariants.{WriteFault}
use Rattle.col_common.proofs.OnOkLemmas.{same-error}
use Rattle.col_disk.specs.Crash.{LeavesOnly}
use Rattle.col_disk.specs.Disks.{SeenDisk, TellsAlike}
use Rattle.col_disk.proofs.Moments.{started, joins}
use Rattle.col_model.specs.Refusal.{Refusal, ◌>>=◌}
use Rattle.col_program.specs.Report.{Prints}
use Rattle.col_program.proofs.ReportLaws.{Prints-none, Prints-then}
use Rattle.col_set.specs.Segments.{HeldTable}
use Rattle.col_set.specs.Held.{held_by}
use Rattle.col_set.specs.Sets.{SeenSet, EachStands, IsBeforeOrGiven, ChangesSet}
use Rattle.col_set.proofs.LeaveLemmas.{if_told, retold}
use Rattle.col_set_run.specs.Outcome.{after_step, found_lines, held_before, reached, step_lines}
use Rattle.col_set_run.specs.Running.{IsPrefix, IsReached, RunsSteps, TakesStep}
use Rattle.col_set_run.proofs.ReachedLemmas.{reached-more, reached-one, before-more, before-refused, found-more, found-one}
use Rattle.col_set_run.proofs.StayLemmas.{not-fault, not-memory}
use Rattle.col_set_script.specs.SetScripts.{SetStep}
use Rattle.col_set_script.specs.Steps.{filled_step, step_of}
use Rattle.col_set_script.specs.declared.step.Step.{Step}
use Rattle.col_writer_columns.specs.Answers.{answer_of, MayRefuse}

-- the tables after the steps that were made
prefix : (hs now : List HeldTable) (xs made left : List SetStep) → xs ≡ made ++ left → reached hs made ≡ Ok now
    → IsPrefix hs xs now
prefix hs now xs made left whole is = record {
  steps = length made;
  within = omega (arith, ap length whole, length-append made left);
  is = ap (reached hs) (ap (take (length made)) whole ∙ take_at made left (length made) refl) ∙ is;
}

-- what stands for them
here : (hs now : List HeldTable) (xs made left : List SetStep) → xs ≡ made ++ left → reached hs made ≡ Ok now → (c : List ℕ)
    → held_by c ≡ Some now → IsReached hs xs c
here hs now xs made left whole is c held =
    let p = prefix hs now xs made left whole is in
    record { steps = p.steps; within = p.within; after = now; is = p.is; held = held }

-- the steps that are left, where the first that was read is this one
pub record IsNext (rest : List SetStep) (step : Step) (left : List Step) : Type 0 where
  pub first : SetStep
  pub others : List SetStep
  pub is : rest ≡ first ∷ others
  pub fits : filled_step first ≡ step_of step
  pub fit : map filled_step others ≡ map step_of left

pub next-step : (rest : List SetStep) (step : Step) (left : List Step) → map filled_step rest ≡ map step_of (step ∷ left)
    → IsNext rest step left
next-step [] step left same = cc
next-step (x ∷ xs) step left same = record { first = x; others = xs; is = refl; fits = cc; fit = cc }

-- none are left where their count is 0
pub none-left : (left : List Step) → length left ≡ 0 → left ≡ []
none-left [] none = refl
none-left (x ∷ xs) none = absurd (omega (arith, none))

-- ---- a run

module _ {D : Type 0} (see : D → SeenDisk) where
  -- The steps up to some one were made, and those are left.
  pub record RunsFrom (old now : SeenSet D) (before after : List ℕ) (xs : List SetStep) (left : List Step) : Type 0 where
    pub made : List SetStep
    pub rest : List SetStep
    pub whole : xs ≡ made ++ rest
    pub fits : map filled_step rest ≡ map step_of left
    pub is : reached old.held made ≡ Ok now.held
    pub lines : Prints before after (found_lines old.held made)
    pub works : now.failed ≡ false
    pub later : (see old.disk).faults ≤ (see now.disk).faults
    pub tells : TellsAlike (see old.disk).told (see now.disk).told
    pub any_moment : IfSome (see old.disk).told (λ _. LeavesOnly (see old.disk).images (see now.disk).images (IsReached old.held xs))
    pub stands : IfSome (see old.disk).told (λ _. EachStands (see now.disk).images now.held)

  pub runs-none : (set : SeenSet D) (out : List ℕ) (xs : List SetStep) (left : List Step) → map filled_step xs ≡ map step_of left
      → set.failed ≡ false
      → ((c : List ℕ) → (see set.disk).images.left_since (see set.disk).images.clock c → (see set.disk).images.may_leave c)
      → IfSome (see set.disk).told (λ _. EachStands (see set.disk).images set.held) → RunsFrom set set out out xs left
  runs-none set out xs left fits works only stands = record {
    made = [];
    rest = xs;
    whole = refl;
    fits = fits;
    is = refl;
    lines = Prints-none out;
    works = works;
    later = omega arith;
    tells = refl;
    any_moment =
        if_told (see set.disk).told (λ _ each. started (see set.disk).images (IsReached set.held xs) only
        (λ c left. here set.held set.held xs [] xs refl refl c (each c left))) stands;
    stands = stands;
  }

  module _ (old now next : SeenSet D) (before after behind : List ℕ) (xs : List SetStep) (step : Step) (left : List Step)
      (was : RunsFrom old now before after xs (step ∷ left)) (n : IsNext was.rest step left) where
    abbrev made : List SetStep
    made = was.made ++ n.first ∷ []

    split : xs ≡ was.made ++ n.first ∷ n.others
    split = was.whole ∙ ap (λ ys. was.made ++ ys) n.is

    whole-more : xs ≡ made ++ n.others
    whole-more = split ∙ sym (append_assoc was.made (n.first ∷ []) n.others)

    -- before the step or after it
    either-reached : (c : List ℕ) → IsBeforeOrGiven now.held (after_step n.first now.held) c → IsReached old.held xs c
    either-reached c (inl before) = here old.held now.held xs was.made (n.first ∷ n.others) split was.is c before
    either-reached c (inr (after, is, given)) =
        here old.held after xs made n.others whole-more (reached-one old.held now.held was.made was.is n.first ∙ is) c given

    moments : (r : Result (Unit {0}) ColumnarError) → ChangesSet see now next r (after_step n.first now.held)
        → IfSome (see old.disk).told (λ _. LeavesOnly (see old.disk).images (see next.disk).images (IsReached old.held xs))
    moments r changes =
        both (see old.disk).told was.any_moment (retold Run (see now.disk).told (see old.disk).told (sym was.tells) changes.any_moment)
      where
        Run : Type 0
        Run = LeavesOnly (see now.disk).images (see next.disk).images (IsBeforeOrGiven now.held (after_step n.first now.held))

        both : (told : Told) → IfSome told (λ _. LeavesOnly (see old.disk).images (see now.disk).images (IsReached old.held xs))
            → IfSome told (λ _. LeavesOnly (see now.disk).images (see next.disk).images
            (IsBeforeOrGiven now.held (after_step n.first now.held)))
            → IfSome told (λ _. LeavesOnly (see old.disk).images (see next.disk).images (IsReached old.held xs))
        both None a b = tt
        both (Some bytes) a b =
            joins (IsReached old.held xs) (IsBeforeOrGiven now.held (after_step n.first now.held)) a b either-reached

    -- what is now, as told of the disk at first
    since : (P : Type 0) → IfSome (see now.disk).told (λ _. P) → IfSome (see old.disk).told (λ _. P)
    since P h = retold P (see now.disk).told (see old.disk).told (sym was.tells) h

    lines-more : TakesStep see now next after behind n.first (Ok tt) → Prints before behind (found_lines old.held made)
    lines-more takes =
        let one = found-one now.held next.held n.first takes.changes.ok ∙ append-nil (step_lines n.first now.held) in
        let both = found-more old.held now.held was.made (n.first ∷ []) was.is ∙ ap (λ ls. found_lines old.held was.made ++ ls) one in
        subst (Prints before behind) (sym both)
        (Prints-then before after behind (found_lines old.held was.made) (step_lines n.first now.held) was.lines takes.lines)

    -- one step more
    pub runs-more : next.failed ≡ false → TakesStep see now next after behind n.first (Ok tt)
        → RunsFrom old next before behind xs left
    runs-more works takes = record {
      made = made;
      rest = n.others;
      whole = whole-more;
      fits = n.fit;
      is = reached-one old.held now.held was.made was.is n.first ∙ takes.changes.ok;
      lines = lines-more takes;
      works = works;
      later = omega (arith, was.later, takes.changes.later);
      tells = takes.changes.tells ∙ was.tells;
      any_moment = moments (Ok tt) takes.changes;
      stands = since (EachStands (see next.disk).images next.held) (takes.changes.now works);
    }

    -- a step that is refused
    pub runs-refused : (e : ColumnarError) → TakesStep see now next after behind n.first (Err e)
        → RunsSteps see old next before behind xs (Err e)
    runs-refused e takes = record {
      ok = tt;
      lines = tt;
      known = takes.known;
      refused = by changes.refused;
      kept = λ r same. kept r (same-error e (answer_of r) same) changes.refused;
      some = prefix old.held next.held xs was.made (n.first ∷ n.others) split (was.is ∙ ap Ok (sym changes.kept));
      write_fault = λ fault. let rose : Rose _ _ = (changes.write_fault fault).1 in omega (arith, was.later, rose);
      failed = changes.failed;
      later = omega (arith, was.later, changes.later);
      tells = changes.tells ∙ was.tells;
      any_moment = moments (Err e) changes;
      now = λ works. since (EachStands (see next.disk).images next.held) (changes.now works);
    }
      where
        changes : ChangesSet see now next (Err e) (after_step n.first now.held)
        changes = takes.changes

        first : reached old.held xs ≡ (after_step n.first now.held >>= λ next. reached next n.others)
        first = ap (reached old.held) split ∙ reached-more old.held now.held was.made was.is n.first n.others

        by : (e ≡ WriteFault) ⊎ MayRefuse (after_step n.first now.held) e → (e ≡ WriteFault) ⊎ MayRefuse (reached old.held xs) e
        by (inl fault) = inl fault
        by (inr (inl memory)) = inr (inl memory)
        by (inr (inr (r, is, answer))) = inr (inr (r, first ∙ ap (λ s. s >>= λ next. reached next n.others) is, answer))

        kept : (r : Refusal) → e ≡ answer_of r → (e ≡ WriteFault) ⊎ MayRefuse (after_step n.first now.held) e
            → next.held ≡ held_before old.held xs
        kept r same (inl fault) = absurd (not-fault r (sym same ∙ fault))
        kept r same (inr (inl memory)) = absurd (not-memory r (sym same ∙ memory))
        kept r same (inr (inr (own, is, answer))) =
            let here = before-more old.held now.held was.made (n.first ∷ n.others) was.is in
            let stops = before-refused now.held n.first n.others own is in
            changes.kept ∙ sym (ap (held_before old.held) split ∙ here ∙ stops)

  -- all steps
  pub runs-all : (old now : SeenSet D) (before after : List ℕ) (xs : List SetStep) → RunsFrom old now before after xs []
      → RunsSteps see old now before after xs (Ok tt)
  runs-all old now before after xs was = record {
    ok = ap (reached old.held) all ∙ was.is;
    lines = subst (λ ys. Prints before after (found_lines old.held ys)) (sym all) was.lines;
    known = tt;
    refused = tt;
    kept = λ r same. absurd (cc same);
    some = prefix old.held now.held xs was.made was.rest was.whole was.is;
    write_fault = λ fault. absurd (cc fault);
    failed = (λ failed. absurd (let e : true ≡ false = sym failed ∙ was.works in cc), λ fault. absurd (cc fault));
    later = was.later;
    tells = was.tells;
    any_moment = was.any_moment;
    now = λ _. was.stands;
  }
    where
      nothing : (rest : List SetStep) → map filled_step rest ≡ map step_of [] → rest ≡ []
      nothing [] same = refl
      nothing (x ∷ xs) same = cc

      all : xs ≡ was.made
      all = was.whole ∙ ap (λ ys. was.made ++ ys) (nothing was.rest was.fits) ∙ append-nil was.made

  -- Ok leaves a set that works
  pub still-works : (old new : SeenSet D) (expected : Result (List HeldTable) Refusal) → ChangesSet see old new (Ok tt) expected
      → new.failed ≡ false
  still-works old new expected changes = by new.failed changes.failed.0
    where
      by : (b : Bool) → (b ≡ true → ◌≡◌ {A = Result (Unit {0}) ColumnarError} (Ok tt) (Err WriteFault)) → b ≡ false
      by true h = absurd (let e = h refl in cc e)
      by false h = refl
