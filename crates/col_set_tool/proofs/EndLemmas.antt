-- What the end of a run leaves: the set as one file, and the report.
use Rattle.std.proofs.Common.{◌≡◌, ◌≤◌, ◌⊎◌, ◌∙◌, inl, inr, ℕ, false, List, [], ◌∷◌, ◌++◌, length, take, Some, None, Result, Ok, Err, IfSome, Contains, refl, sym, ap, subst, arith}
use Rattle.std.specs.Prelude.{IfErr, OnErr, OnOk}
use Rattle.std.proofs.Math.Seq.{take-length}
use Rattle.col_common.specs.Causes.{Rose}
use Rattle.col_common.specs.Outside.{SeenSink, Appends, AppendsNothing, Faulted, Grows, Told}
use Rattle.col_common.specs.Refused.{code_of}
use Rattle.col_common.specs.declared.error.ColumnarError.{ColumnarError}
use Rattle.col_common.specs.declared.error.ColumnarError.TheVariants.{OutOfMemory, WriteFault}
use Rattle.col_common.proofs.OnOkLemmas.{same-error}
use Rattle.col_common.proofs.SerializingLemmas.{appends_none}
use Rattle.col_disk.specs.Crash.{LeavesOnly}
use Rattle.col_disk.specs.Disks.{SeenDisk}
use Rattle.col_disk.proofs.Moments.{joins, leaves_weaker}
use Rattle.col_model.specs.File.{StandsFor}
use Rattle.col_model.specs.Refusal.{Refusal, ◌>>=◌}
use Rattle.col_model.proofs.RefusalLaws.{same_Ok}
use Rattle.col_model.specs.Table.{Table}
use Rattle.col_headline.specs.Headline.{CutShort, Merged, WholeFile}
use Rattle.col_program.specs.Outcome.{Outcome, IsDone, as_file, done}
use Rattle.col_program.specs.Report.{lines_text, rows_line, Prints}
use Rattle.col_program.proofs.ReportLaws.{Prints-then}
use Rattle.col_segments.specs.Live.{compacted, merged_alive}
use Rattle.col_segments.specs.Segments.{HeldTable, alive_count, all_alive}
use Rattle.col_set.specs.Sets.{SeenSet, ChangesSet, EachStands, IsBeforeOrGiven, IsCompactAnswer, WritesBytes}
use Rattle.col_set.proofs.LeaveLemmas.{retold}
use Rattle.col_set_run.specs.Outcome.{final_table, found_lines}
use Rattle.col_set_run.specs.Running.{IsReached, RunsSteps, step_statuses}
use Rattle.col_set_run.proofs.StayLemmas.{not-fault, not-memory}
use Rattle.col_set_script.specs.SetScripts.{SetStep}
use Rattle.col_set_tool.specs.SetOutcome.{outcome_on}
use Rattle.col_set_tool.specs.Runs.{IsAfterSome, IsMadeOne, RunsWhole}
use Rattle.col_set_tool.proofs.FinalLemmas.{before-end, compacted-refused, final-is, held-at-end, outcome-is, reached-some, rows-counted}
use Rattle.col_set_tool.proofs.WholeLemmas.{grown, grown-none, unfailed}
use Rattle.col_writer_columns.specs.Answers.{answer_of, MayRefuse}

-- the text of the lines of lookups and of the row count
text-is : (found all : List ℕ) (hs mid : List HeldTable) (xs : List SetStep) (t : Table) → merged_alive mid ≡ Ok t
    → Prints [] found (found_lines hs xs) → Prints found all (rows_line (alive_count mid) ∷ [])
    → all ≡ lines_text (found_lines hs xs ++ rows_line t.row_count ∷ [])
unfolding Prints
text-is found all hs mid xs t is lines rows =
    Prints-then [] found all (found_lines hs xs) (rows_line (alive_count mid) ∷ []) lines rows
    ∙ ap (λ n. lines_text (found_lines hs xs ++ rows_line n ∷ [])) (rows-counted mid t is)

-- what follows where the outcome is this one
done-as : (o : Outcome) (t : Table) (text : List ℕ) (P : Outcome → Type 0) → o ≡ done (as_file t) text → P (done (as_file t) text) → P o
done-as o t text P is h = subst P (sym is) h

module _ {D : Type 0} (see : D → SeenDisk) (old mid new : SeenSet D) (xs : List SetStep) (found all : List ℕ)
    (s : RunsSteps see old mid [] found xs (Ok tt)) (rows : Prints found all (rows_line (alive_count mid.held) ∷ []))
    (k : Result (Unit {0}) ColumnarError) (changes : ChangesSet see mid new k (compacted mid.held)) where
  abbrev hs : List HeldTable
  hs = old.held

  abbrev Both : Told → Type 0
  Both told = IfSome told (λ _. LeavesOnly (see old.disk).images (see new.disk).images (IsAfterSome hs xs))

  moments : Both (see old.disk).told
  moments = both (see old.disk).told s.any_moment (retold End (see mid.disk).told (see old.disk).told (sym s.tells) changes.any_moment)
    where
      End : Type 0
      End = LeavesOnly (see mid.disk).images (see new.disk).images (IsBeforeOrGiven mid.held (compacted mid.held))

      both : (told : Told) → IfSome told (λ _. LeavesOnly (see old.disk).images (see mid.disk).images (IsReached hs xs))
          → IfSome told (λ _. End) → Both told
      both None a b = tt
      both (Some bytes) a b =
          joins (IsAfterSome hs xs) (IsBeforeOrGiven mid.held (compacted mid.held))
          (leaves_weaker (IsReached hs xs) (IsAfterSome hs xs) a (reached-some hs xs)) b (held-at-end hs mid.held xs s.ok)

  stands : new.failed ≡ false → IfSome (see old.disk).told (λ _. EachStands (see new.disk).images new.held)
  stands works =
      retold (EachStands (see new.disk).images new.held) (see mid.disk).told (see old.disk).told (sym s.tells) (changes.now works)

  -- ---- the set isn't made one file

  known_as : (e : ColumnarError) → IsCompactAnswer e → Contains step_statuses (code_of e)
  known_as e (inl memory) = (0, omega arith, sym (ap code_of memory))
  known_as e (inr (inl fault)) = (1, omega arith, sym (ap code_of fault))
  known_as e (inr (inr (inl conflict))) = (3, omega arith, sym (ap code_of conflict))
  known_as e (inr (inr (inr large))) = (4, omega arith, sym (ap code_of large))

  pub end-refused : (output report : SeenSink) (e : ColumnarError) → k ≡ Err e → IsCompactAnswer e
      → RunsWhole see old new output output report report xs (Err e)
  end-refused output report e is known = record {
    done = tt;
    held = tt;
    refused = by refuses;
    known = known_as e known;
    kept = λ r same. now_held ∙ sym (before-end hs mid.held xs s.ok);
    nothing = λ r same. (refl, refl);
    cut_short = λ fault. inl (rose fault, refl, refl);
    write_fault = λ fault. inl (rose fault);
    memory = λ memory. (refl, inl refl);
    grown = (grown-none output output refl, grown-none report report refl);
    later = (omega (arith, s.later, changes.later), omega arith, omega arith);
    tells = changes.tells ∙ s.tells;
    any_moment = moments;
    works = λ other. unfailed new.failed (λ failed. sym is ∙ changes.failed.0 failed) other;
    now = stands;
  }
    where
      rose : ◌≡◌ {A = Result (Unit {0}) ColumnarError} (Err e) (Err WriteFault) → Rose (see old.disk).faults (see new.disk).faults
      rose fault = let rose : Rose _ _ = (changes.write_fault (is ∙ fault)).1 in omega (arith, s.later, rose)

      refuses : (e ≡ WriteFault) ⊎ MayRefuse (compacted mid.held) e
      refuses = subst (λ (r : Result (Unit {0}) ColumnarError). IfErr r (λ e. (e ≡ WriteFault) ⊎ MayRefuse (compacted mid.held) e)) is
          changes.refused

      now_held : new.held ≡ mid.held
      now_held = subst (λ (r : Result (Unit {0}) ColumnarError). OnErr r (new.held ≡ mid.held)) is changes.kept

      by : (e ≡ WriteFault) ⊎ MayRefuse (compacted mid.held) e → (e ≡ WriteFault) ⊎ MayRefuse (final_table hs xs) e
      by (inl fault) = inl fault
      by (inr (inl memory)) = inr (inl memory)
      by (inr (inr (r, refused, answer))) =
          inr (inr (r, final-is hs mid.held xs s.ok ∙ compacted-refused mid.held r refused, answer))

  -- ---- the set is one table

  module _ (t : Table) (file : List ℕ) (made : merged_alive mid.held ≡ Ok t) (is : StandsFor t file) (ok : k ≡ Ok tt) where
    abbrev text : List ℕ
    text = lines_text (found_lines hs xs ++ rows_line t.row_count ∷ [])

    IsFor : (P : Outcome → Type 0) → P (done (as_file t) text) → P (outcome_on hs xs)
    IsFor P h = done-as (outcome_on hs xs) t text P (outcome-is hs mid.held xs s.ok t made) h

    now-held : new.held ≡ all_alive t ∷ []
    now-held =
        let given : compacted mid.held ≡ Ok new.held =
        subst (λ (r : Result (Unit {0}) ColumnarError). OnOk r (compacted mid.held ≡ Ok new.held)) ok changes.ok in
        sym (same_Ok (all_alive t ∷ []) new.held (sym (ap (λ r. r >>= λ t. Ok (all_alive t ∷ [])) made) ∙ given))

    final : final_table hs xs ≡ Ok t
    final = final-is hs mid.held xs s.ok ∙ made

    held-then : (u : Table) → final_table hs xs ≡ Ok u → new.held ≡ all_alive u ∷ []
    held-then u other = now-held ∙ ap (λ v. all_alive v ∷ []) (same_Ok t u (sym final ∙ other))

    works-then : new.failed ≡ false
    works-then = unfailed new.failed (λ failed. sym ok ∙ changes.failed.0 failed) (λ fault. cc fault)

    made-one : IsMadeOne hs new.held new.failed xs
    made-one = (works-then, held-then)

    later-then : (see old.disk).faults ≤ (see new.disk).faults
    later-then = omega (arith, s.later, changes.later)

    -- no refusal of the definitions comes behind the table
    pub end-cut : (output output' report report' : SeenSink) (e : ColumnarError) → (e ≡ OutOfMemory) ⊎ (e ≡ WriteFault)
        → (e ≡ WriteFault → IsDone (outcome_on hs xs) (CutShort output output' report report')
        × (Faulted output output' ⊎ Faulted report report'))
        → (e ≡ OutOfMemory → AppendsNothing report report'
        × (AppendsNothing output output' ⊎ IsDone (outcome_on hs xs) (WholeFile output output')))
        → Grows output output' × Grows report report' → (output.faults ≤ output'.faults) × (report.faults ≤ report'.faults)
        → RunsWhole see old new output output' report report' xs (Err e)
    end-cut output output' report report' e known cut memory grew later = record {
      done = tt;
      held = tt;
      refused = by known;
      known = status known;
      kept = λ r same. absurd (never r (same-error e (answer_of r) same));
      nothing = λ r same. absurd (never r (same-error e (answer_of r) same));
      cut_short = λ fault. inr ((cut (same-error e WriteFault fault)).0, made-one);
      write_fault = λ fault. inr (cut (same-error e WriteFault fault)).1;
      memory = λ wanting. with_made (memory (same-error e OutOfMemory wanting));
      grown = grew;
      later = (later-then, later.0, later.1);
      tells = changes.tells ∙ s.tells;
      any_moment = moments;
      works = λ other. works-then;
      now = stands;
    }
      where
        with_made : AppendsNothing report report' × (AppendsNothing output output' ⊎ IsDone (outcome_on hs xs) (WholeFile output output'))
            → AppendsNothing report report' × (AppendsNothing output output'
            ⊎ (IsDone (outcome_on hs xs) (WholeFile output output') × IsMadeOne hs new.held new.failed xs))
        with_made (none, inl nothing) = (none, inl nothing)
        with_made (none, inr whole) = (none, inr (whole, made-one))

        by : (e ≡ OutOfMemory) ⊎ (e ≡ WriteFault) → (e ≡ WriteFault) ⊎ MayRefuse (final_table hs xs) e
        by (inl wanting) = inr (inl wanting)
        by (inr fault) = inl fault

        status : (e ≡ OutOfMemory) ⊎ (e ≡ WriteFault) → Contains step_statuses (code_of e)
        status (inl wanting) = (0, omega arith, sym (ap code_of wanting))
        status (inr fault) = (1, omega arith, sym (ap code_of fault))

        never : (r : Refusal) → e ≡ answer_of r → ⊥
        never r same = of known
          where
            of : (e ≡ OutOfMemory) ⊎ (e ≡ WriteFault) → ⊥
            of (inl wanting) = not-memory r (sym same ∙ wanting)
            of (inr fault) = not-fault r (sym same ∙ fault)

    -- the file isn't written, or not whole
    pub file-cut : (output output' report : SeenSink) (e : ColumnarError) → WritesBytes output output' (Err e) file
        → RunsWhole see old new output output' report report xs (Err e)
    file-cut output output' report e w =
        end-cut output output' report report e w.causes
        (λ fault. (front (w.cut_short (ap Err fault)).0, inl (w.cut_short (ap Err fault)).1))
        (λ wanting. (refl, inl (w.memory (ap Err wanting)))) (grown output output' (Err e) file w, grown-none report report refl)
        (w.later, omega arith)
      where
        front : (p : (n : ℕ) × Appends output output' (take n file)) → IsDone (outcome_on hs xs) (CutShort output output' report report)
        front p = IsFor (λ o. IsDone o (CutShort output output' report report)) (record {
          file = file;
          stands = is;
          of_file = p.0;
          of_lines = 0;
          in_output = p.1;
          in_report = appends_none report;
          in_order = λ less. refl;
        })

    -- the file is written, and the report is, or not, or not whole
    pub report-end : (output output' report report' : SeenSink) (r : Result (Unit {0}) ColumnarError)
        → WritesBytes output output' (Ok tt) file → WritesBytes report report' r all
        → RunsWhole see old new output output' report report' xs r
    report-end output output' report report' r w v = by r (subst (WritesBytes report report' r) all-is v)
      where
        all-is : all ≡ text
        all-is = text-is found all hs mid.held xs t made s.lines rows

        by : (r : Result (Unit {0}) ColumnarError) → WritesBytes report report' r text
            → RunsWhole see old new output output' report report' xs r
        by (Ok fine) v = record {
          done = IsFor (λ o. IsDone o (Merged output output' report report'))
              (record { file = file; stands = is; in_output = w.ok; in_report = v.ok });
          held = held-then;
          refused = tt;
          known = tt;
          kept = λ r same. absurd (cc same);
          nothing = λ r same. absurd (cc same);
          cut_short = λ fault. absurd (cc fault);
          write_fault = λ fault. absurd (cc fault);
          memory = λ wanting. absurd (cc wanting);
          grown = (grown output output' (Ok tt) file w, grown report report' (Ok fine) text v);
          later = (later-then, w.later, v.later);
          tells = changes.tells ∙ s.tells;
          any_moment = moments;
          works = λ other. works-then;
          now = stands;
        }
        by (Err e) v =
            end-cut output output' report report' e v.causes
            (λ fault. (front (v.cut_short (ap Err fault)).0, inr (v.cut_short (ap Err fault)).1))
            (λ wanting. (v.memory (ap Err wanting), inr whole))
            (grown output output' (Ok tt) file w, grown report report' (Err e) text v) (w.later, v.later)
          where
            front : (p : (n : ℕ) × Appends report report' (take n text))
                → IsDone (outcome_on hs xs) (CutShort output output' report report')
            front p = IsFor (λ o. IsDone o (CutShort output output' report report')) (record {
              file = file;
              stands = is;
              of_file = length file;
              of_lines = p.0;
              in_output = subst (Appends output output') (sym (take-length file)) w.ok;
              in_report = p.1;
              in_order = λ less. absurd (omega (arith, less));
            })

            whole : IsDone (outcome_on hs xs) (WholeFile output output')
            whole = IsFor (λ o. IsDone o (WholeFile output output')) (record { file = file; stands = is; in_output = w.ok })
