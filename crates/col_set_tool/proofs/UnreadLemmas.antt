-- What a run leaves whose script isn't read.
use Rattle.std.proofs.Common.{◌≡◌, ◌≢◌, ◌≤◌, ◌⊎◌, ◌+◌, ◌∙◌, inl, inr, ℕ, suc, zero, List, [], ◌∷◌, Some, Result, Ok, Err, Contains, refl, sym, ap, arith}
use Rattle.col_common.specs.Causes.{Rose}
use Rattle.col_common.specs.Outside.{SeenSink, IsAtEnd, TakesAtMost, Told}
use Rattle.col_disk.specs.Disks.{IsDisk, SeenDisk}
use Rattle.col_disk.proofs.Moments.{started}
use Rattle.col_model.specs.Refusal.{Refusal, status_of}
use Rattle.col_program.specs.Outcome.{max_script_length, outcome_status}
use Rattle.col_set.specs.Held.{held_by}
use Rattle.col_set_script.specs.SetScripts.{SetStep}
use Rattle.col_set_tool.specs.Reading.{RefusesRead}
use Rattle.col_set_tool.specs.Runs.{IsAfterSome, set_statuses}
use Rattle.col_set_tool.specs.SetOutcome.{outcome_read, readable, set_outcome, steps_in}
use Rattle.col_set_tool.specs.SetRuns.{RunsSet}
use Rattle.col_headline.proofs.StatusLemmas.{status-bounds}
use Rattle.col_set_tool.proofs.StatusLemmas.{both-told, told-at, at-first, grown-none, stays-none, if-told}

-- a status of a script that isn't read
abbrev IsOfRead : ℕ → Type 0
IsOfRead status = (status ≡ 3) ⊎ ((status ≡ 4) ⊎ ((20 ≤ status) × (status ≤ 21)))

no-zero : (status : ℕ) → IsOfRead status → status ≡ 0 → ⊥
no-zero status (inl e) is = omega (arith, e, is)
no-zero status (inr (inl e)) is = omega (arith, e, is)
no-zero status (inr (inr b)) is = omega (arith, b.0, is)

no-five : (status : ℕ) → IsOfRead status → status ≡ 5 → ⊥
no-five status (inl e) is = omega (arith, e, is)
no-five status (inr (inl e)) is = omega (arith, e, is)
no-five status (inr (inr b)) is = omega (arith, b.0, is)

no-six : (status : ℕ) → IsOfRead status → status ≡ 6 → ⊥
no-six status (inl e) is = omega (arith, e, is)
no-six status (inr (inl e)) is = omega (arith, e, is)
no-six status (inr (inr b)) is = omega (arith, b.0, is)

no-refusal : (status : ℕ) → IsOfRead status → (r : Refusal) → status ≡ status_of r → ⊥
no-refusal status (inl e) r is = omega (arith, e, is, (status-bounds r).0)
no-refusal status (inr (inl e)) r is = omega (arith, e, is, (status-bounds r).0)
no-refusal status (inr (inr b)) r is = omega (arith, b.0, is, (status-bounds r).1)

module _ (disk : SeenDisk) (is_disk : IsDisk disk) (left left' : Told) (faults faults' : ℕ) (output report : SeenSink) (status : ℕ)
    (why : RefusesRead left (Rose faults faults') status) (later : faults ≤ faults') where
  two : Contains (20 ∷ 21 ∷ []) status → (20 ≤ status) × (status ≤ 21)
  two (zero, within, is) = (omega (arith, is), omega (arith, is))
  two (suc zero, within, is) = (omega (arith, is), omega (arith, is))
  two (suc (suc n), within, is) = absurd (omega (arith, within))

  of-read : IsOfRead status
  of-read = by why
    where
      by : RefusesRead left (Rose faults faults') status → IsOfRead status
      by (inl memory) = inl memory
      by (inr (inl fault)) = inr (inl fault.0)
      by (inr (inr script)) = inr (inr (two script.0))

  is-known : (bytes text : List ℕ) → left ≡ Some text → RefusesRead left (Rose faults faults') status
      → Contains (outcome_status (set_outcome bytes text) ∷ 3 ∷ 4 ∷ 5 ∷ []) status
  unfolding set_outcome
  is-known bytes text told (inl memory) = (1, omega arith, sym memory)
  is-known bytes text told (inr (inl fault)) = (2, omega arith, sym fault.0)
  is-known bytes text told (inr (inr script)) =
      (0, omega arith, ap (λ r. outcome_status (outcome_read bytes r)) (told-at _ left text told script.1))

  among : RefusesRead left (Rose faults faults') status → Contains set_statuses status
  among (inl memory) = (5, omega arith, sym memory)
  among (inr (inl fault)) = (1, omega arith, sym fault.0)
  among (inr (inr script)) = two_of script.0
    where
      two_of : Contains (20 ∷ 21 ∷ []) status → Contains set_statuses status
      two_of (zero, within, is) = (3, omega arith, is)
      two_of (suc zero, within, is) = (4, omega arith, is)
      two_of (suc (suc n), within, is) = absurd (omega (arith, within))

  bad : (text : List ℕ) → left ≡ Some text → (own : ℕ) → readable text ≡ Err own → RefusesRead left (Rose faults faults') status
      → (status ≡ own) ⊎ ((status ≡ 3) ⊎ ((status ≡ 4) × Rose faults faults'))
  bad text given own is (inl memory) = inr (inl memory)
  bad text given own is (inr (inl fault)) = inr (inr fault)
  bad text given own is (inr (inr script)) =
      let both : ◌≡◌ {A = Result (List SetStep) ℕ} (Err status) (Err own) = sym (told-at _ left text given script.1) ∙ is in inl (cc both)

  good : (text : List ℕ) → left ≡ Some text → (xs : List SetStep) → readable text ≡ Ok xs → RefusesRead left (Rose faults faults') status
      → (status ≢ 20) × (status ≢ 21)
  good text given xs is (inl memory) = (λ e. omega (arith, memory, e), λ e. omega (arith, memory, e))
  good text given xs is (inr (inl fault)) = (λ e. omega (arith, fault.0, e), λ e. omega (arith, fault.0, e))
  good text given xs is (inr (inr script)) =
      let both : ◌≡◌ {A = Result (List SetStep) ℕ} (Ok xs) (Err status) = sym is ∙ told-at _ left text given script.1 in absurd (cc both)

  rose : RefusesRead left (Rose faults faults') status → status ≡ 4 → Rose faults faults'
  rose (inl memory) four = absurd (omega (arith, memory, four))
  rose (inr (inl fault)) four = fault.1
  rose (inr (inr script)) four = absurd (omega (arith, (two script.0).0, four))

  pub unread : TakesAtMost (max_script_length + 1) left left'
      → (status ≢ 3 → status ≢ 4 → status ≢ 21 → IsAtEnd left')
      → RunsSet disk disk left left' faults faults' output output report report status
  unread taken ended = record {
    any_moment =
        both-told disk.told left _
        (λ bytes text told given hs is only. started disk.images (IsAfterSome hs (steps_in text)) is_disk.only_now
        (λ c may. at-first hs (steps_in text) c (ap held_by (only c may) ∙ is)));
    from_start = both-told disk.told left _ (λ bytes text told given. started disk.images _ is_disk.only_now (λ c may. inl may));
    no_set_stays = if-told disk.told _ (λ bytes told none. started disk.images disk.images.may_leave is_disk.only_now (λ c may. may));
    untouched = λ own. (stays-none disk, refl);
    no_step = λ own. if-told disk.told _ (λ bytes told. started disk.images _ is_disk.only_now (λ c may. inl may));
    headline = λ zero. absurd (no-zero status of-read zero);
    held = λ zero. absurd (no-zero status of-read zero);
    known = both-told disk.told left _ (λ bytes text told given. is-known bytes text given why);
    among = among why;
    no_set = λ six. absurd (no-six status of-read six);
    bad_script = if-told left _ (λ text given own is. bad text given own is why);
    good_script = if-told left _ (λ text given xs is. good text given xs is why);
    refused = both-told disk.told left _ (λ bytes text told given hs r is final same. absurd (no-refusal status of-read r same));
    read_fault = λ four. inl (rose why four);
    write_fault = λ five. absurd (no-five status of-read five);
    cut_short = λ five. absurd (no-five status of-read five);
    memory = λ three. (refl, inl refl);
    nothing = λ zero three five. (refl, refl);
    grown = (grown-none output, grown-none report);
    later = (later, omega arith, omega arith, omega arith);
    tells = refl;
    taken = taken;
    ended = ended;
  }
