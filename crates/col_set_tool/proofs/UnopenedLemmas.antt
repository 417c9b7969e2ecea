-- What a run leaves whose disk isn't opened.
use Rattle.std.proofs.Common.{◌≡◌, ◌≢◌, ◌≤◌, ◌⊎◌, ◌+◌, ◌∙◌, inl, inr, ℕ, suc, zero, List, [], ◌∷◌, Some, None, Ok, Err, IfSome, Contains, refl, sym, ap, arith}
use Rattle.col_common.specs.Causes.{Rose}
use Rattle.col_common.specs.Outside.{SeenSink, IsAtEnd, TakesAtMost, Told}
use Rattle.col_common.specs.Refused.{code_of}
use Rattle.col_common.specs.declared.error.ColumnarError.{ColumnarError}
use Rattle.col_common.specs.declared.error.ColumnarError.TheVariants.{OutOfMemory, ReadFault, WriteFault, InvalidData}
use Rattle.col_disk.specs.Crash.{LeavesOnly, Only}
use Rattle.col_disk.specs.Disks.{SeenDisk}
use Rattle.col_disk.proofs.Moments.{leaves_weaker}
use Rattle.col_model.specs.Refusal.{Refusal, status_of}
use Rattle.col_program.specs.Outcome.{max_script_length, outcome_status}
use Rattle.col_segments.specs.Segments.{HeldTable}
use Rattle.col_set.specs.Held.{held_by}
use Rattle.col_set.specs.Sets.{IsHeldAlike, OpensSet, RefusesOpen}
use Rattle.col_set_script.specs.SetScripts.{SetStep}
use Rattle.col_set_tool.specs.Runs.{IsAfterSome, set_statuses}
use Rattle.col_set_tool.specs.SetOutcome.{outcome_held, readable, set_outcome, steps_in}
use Rattle.col_set_tool.specs.SetRuns.{RunsSet}
use Rattle.col_headline.proofs.StatusLemmas.{status-bounds}
use Rattle.col_set_tool.proofs.StatusLemmas.{both-told, told-at, at-first, grown-none, outcome-as, if-told, no-status-of}

module _ {D : Type 0} (see : D → SeenDisk) (disk : D) (left left' : Told) (faults faults' : ℕ)
    (own : List ℕ) (xs : List SetStep) (told : IfSome left (λ bytes. bytes ≡ own)) (is : readable own ≡ Ok xs)
    (taken : TakesAtMost (max_script_length + 1) left left') (at_end : IsAtEnd left') (read_later : faults ≤ faults') where
  text-is : (text : List ℕ) → left ≡ Some text → text ≡ own
  text-is text given = told-at _ left text given told

  -- ---- the disk isn't opened

  module _ (back : D) (e : ColumnarError) (output report : SeenSink) (opens : OpensSet see disk (Err (back, e))) where
    abbrev None-held : Type 0
    None-held = IfSome (see disk).told (λ bytes. held_by bytes ≡ None)

    abbrev Risen : Type 0
    Risen = Rose (see disk).faults (see back).faults

    -- the refusal as one of four
    abbrev IsOpening : Type 0
    IsOpening = (e ≡ OutOfMemory) ⊎ (((e ≡ InvalidData) × None-held) ⊎ (((e ≡ ReadFault) × Risen) ⊎ ((e ≡ WriteFault) × Risen)))

    of-open : IsOpening
    of-open = by e opens.refused
      where
        by : (e : ColumnarError) → RefusesOpen None-held Risen e
            → (e ≡ OutOfMemory) ⊎ (((e ≡ InvalidData) × None-held) ⊎ (((e ≡ ReadFault) × Risen) ⊎ ((e ≡ WriteFault) × Risen)))
        by OutOfMemory h = inl refl
        by InvalidData h = inr (inl (refl, h))
        by ReadFault h = inr (inr (inl (refl, h)))
        by WriteFault h = inr (inr (inr (refl, h)))
        by _ h = absurd h

    not-open : (n : ℕ) → n ≢ 3 → n ≢ 4 → n ≢ 5 → n ≢ 6 → code_of e ≡ n → ⊥
    not-open n three four five six is = by of-open
      where
        by : IsOpening → ⊥
        by (inl a) = three (sym is ∙ ap code_of a)
        by (inr (inl a)) = six (sym is ∙ ap code_of a.0)
        by (inr (inr (inl a))) = four (sym is ∙ ap code_of a.0)
        by (inr (inr (inr a))) = five (sym is ∙ ap code_of a.0)

    known : (bytes text : List ℕ) → (see disk).told ≡ Some bytes → left ≡ Some text → IsOpening
        → Contains (outcome_status (set_outcome bytes text) ∷ 3 ∷ 4 ∷ 5 ∷ []) (code_of e)
    known bytes text b t (inl a) = (1, omega arith, sym (ap code_of a))
    known bytes text b t (inr (inl a)) = (
      0,
      omega arith,
      ap outcome_status (outcome-as bytes text own xs (text-is text t) is
          ∙ ap (λ o. outcome_held o xs) (told-at _ (see disk).told bytes b a.1))
          ∙ sym (ap code_of a.0),
    )
    known bytes text b t (inr (inr (inl a))) = (2, omega arith, sym (ap code_of a.0))
    known bytes text b t (inr (inr (inr a))) = (3, omega arith, sym (ap code_of a.0))

    -- a disk that holds a set isn't refused as one that holds none
    no-refusal-then : (bytes : List ℕ) (hs : List HeldTable) (r : Refusal) → (see disk).told ≡ Some bytes → held_by bytes ≡ Some hs
        → code_of e ≡ status_of r → IsOpening → ⊥
    no-refusal-then bytes hs r b held same (inl a) = omega (arith, same, ap code_of a, (status-bounds r).0)
    no-refusal-then bytes hs r b held same (inr (inl a)) =
        let none : held_by bytes ≡ None = told-at _ (see disk).told bytes b a.1 in let e : Some hs ≡ None = sym held ∙ none in cc
    no-refusal-then bytes hs r b held same (inr (inr (inl a))) = omega (arith, same, ap code_of a.0, (status-bounds r).0)
    no-refusal-then bytes hs r b held same (inr (inr (inr a))) = omega (arith, same, ap code_of a.0, (status-bounds r).0)

    among : IsOpening → Contains set_statuses (code_of e)
    among (inl a) = (5, omega arith, sym (ap code_of a))
    among (inr (inl a)) = (2, omega arith, sym (ap code_of a.0))
    among (inr (inr (inl a))) = (1, omega arith, sym (ap code_of a.0))
    among (inr (inr (inr a))) = (6, omega arith, sym (ap code_of a.0))

    none-held : IsOpening → code_of e ≡ 6 → None-held
    none-held (inl a) six = absurd (omega (arith, ap code_of a, six))
    none-held (inr (inl a)) six = a.1
    none-held (inr (inr (inl a))) six = absurd (omega (arith, ap code_of a.0, six))
    none-held (inr (inr (inr a))) six = absurd (omega (arith, ap code_of a.0, six))

    rose-reading : IsOpening → code_of e ≡ 4 → Risen
    rose-reading (inl a) four = absurd (omega (arith, ap code_of a, four))
    rose-reading (inr (inl a)) four = absurd (omega (arith, ap code_of a.0, four))
    rose-reading (inr (inr (inl a))) four = a.1
    rose-reading (inr (inr (inr a))) four = absurd (omega (arith, ap code_of a.0, four))

    rose-writing : IsOpening → code_of e ≡ 5 → Risen
    rose-writing (inl a) five = absurd (omega (arith, ap code_of a, five))
    rose-writing (inr (inl a)) five = absurd (omega (arith, ap code_of a.0, five))
    rose-writing (inr (inr (inl a))) five = absurd (omega (arith, ap code_of a.0, five))
    rose-writing (inr (inr (inr a))) five = a.1

    moments : (bytes text : List ℕ) → (see disk).told ≡ Some bytes → (hs : List HeldTable) → held_by bytes ≡ Some hs
        → Only bytes (see disk).images → LeavesOnly (see disk).images (see back).images (IsAfterSome hs (steps_in text))
    moments bytes text b hs held only =
        leaves_weaker (λ c. (see disk).images.may_leave c ⊎ IsHeldAlike bytes c) (IsAfterSome hs (steps_in text))
        (told-at _ (see disk).told bytes b opens.any_moment) by
      where
        by : (c : List ℕ) → (see disk).images.may_leave c ⊎ IsHeldAlike bytes c → IsAfterSome hs (steps_in text) c
        by c (inl may) = at-first hs (steps_in text) c (ap held_by (only c may) ∙ held)
        by c (inr (ks, old, new)) = at-first hs (steps_in text) c (new ∙ sym old ∙ held)

    starts : (bytes text : List ℕ) → (see disk).told ≡ Some bytes → LeavesOnly (see disk).images (see back).images
        (λ c. (see disk).images.may_leave c ⊎ ((hs : List HeldTable) × (held_by bytes ≡ Some hs) × IsAfterSome hs (steps_in text) c))
    starts bytes text b =
        leaves_weaker (λ c. (see disk).images.may_leave c ⊎ IsHeldAlike bytes c) _ (told-at _ (see disk).told bytes b opens.any_moment) by
      where
        by : (c : List ℕ) → (see disk).images.may_leave c ⊎ IsHeldAlike bytes c
            → (see disk).images.may_leave c ⊎ ((hs : List HeldTable) × (held_by bytes ≡ Some hs) × IsAfterSome hs (steps_in text) c)
        by c (inl may) = inl may
        by c (inr (hs, old, new)) = inr (hs, old, at-first hs (steps_in text) c new)

    no-set : (bytes : List ℕ) → (see disk).told ≡ Some bytes → held_by bytes ≡ None
        → LeavesOnly (see disk).images (see back).images (see disk).images.may_leave
    no-set bytes b none =
        leaves_weaker (λ c. (see disk).images.may_leave c ⊎ IsHeldAlike bytes c) (see disk).images.may_leave
        (told-at _ (see disk).told bytes b opens.any_moment) by
      where
        by : (c : List ℕ) → (see disk).images.may_leave c ⊎ IsHeldAlike bytes c → (see disk).images.may_leave c
        by c (inl may) = may
        by c (inr (hs, old, new)) = let both : Some hs ≡ None = sym old ∙ none in absurd (cc both)

    bad-status : Contains (20 ∷ 21 ∷ []) (code_of e) → ⊥
    bad-status (zero, within, is) = not-open 20 (λ e. cc) (λ e. cc) (λ e. cc) (λ e. cc) (sym is)
    bad-status (suc zero, within, is) = not-open 21 (λ e. cc) (λ e. cc) (λ e. cc) (λ e. cc) (sym is)
    bad-status (suc (suc n), within, is) = omega (arith, within)

    pub unopened : RunsSet (see disk) (see back) left left' faults faults' output output report report (code_of e)
    unopened = record {
      any_moment = both-told (see disk).told left _ (λ bytes text b t hs held only. moments bytes text b hs held only);
      from_start = both-told (see disk).told left _ (λ bytes text b t. starts bytes text b);
      no_set_stays = if-told (see disk).told _ (λ bytes b none. no-set bytes b none);
      untouched = λ own. absurd (bad-status own);
      no_step = λ own. opens.any_moment;
      headline = λ zero. absurd (not-open 0 (λ e. cc) (λ e. cc) (λ e. cc) (λ e. cc) zero);
      held = λ zero. absurd (not-open 0 (λ e. cc) (λ e. cc) (λ e. cc) (λ e. cc) zero);
      known = both-told (see disk).told left _ (λ bytes text b t. known bytes text b t of-open);
      among = among of-open;
      no_set = λ six. none-held of-open six;
      bad_script = if-told left _ (λ text given status bad. absurd (no-status-of text own xs status (text-is text given) is bad));
      good_script =
          if-told left _
          (λ text given ys good. (
            not-open 20 (λ e. cc) (λ e. cc) (λ e. cc) (λ e. cc),
            not-open 21 (λ e. cc) (λ e. cc) (λ e. cc)
                (λ e. cc),
          ));
      refused =
          both-told (see disk).told left _
          (λ bytes text b t hs r held final same. absurd (no-refusal-then bytes hs r b held same of-open));
      read_fault = λ four. inr (rose-reading of-open four);
      write_fault = λ five. inl (rose-writing of-open five);
      cut_short = λ five. inl (rose-writing of-open five, refl, refl);
      memory = λ three. (refl, inl refl);
      nothing = λ zero three five. (refl, refl);
      grown = (grown-none output, grown-none report);
      later = (read_later, opens.later, omega arith, omega arith);
      tells = opens.tells;
      taken = taken;
      ended = λ three four long. at_end;
    }
