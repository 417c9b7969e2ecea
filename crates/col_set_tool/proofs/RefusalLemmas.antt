-- What the status of a step's refusal says of the refusal.
use Rattle.std.proofs.Common.{◌≡◌, ◌≢◌, ◌<◌, ◌≤◌, ◌⊎◌, ◌∙◌, inl, inr, ℕ, suc, zero, false, List, [], ◌∷◌, Result, Contains, refl, sym, ap, subst, arith}
use Rattle.std.specs.Prelude.{◌==◌}
use Rattle.std.proofs.lemmas.List.Elements.{All-contains, All-from_recursion}
use Rattle.col_common.specs.Refused.{code_of}
use Rattle.col_common.specs.declared.error.ColumnarError.{ColumnarError}
use Rattle.col_common.specs.declared.error.ColumnarError.TheVariants.{OutOfMemory, WriteFault}
use Rattle.col_headline.proofs.StatusLemmas.{code-answer, status-bounds}
use Rattle.col_model.specs.Refusal.{Refusal}
use Rattle.col_model.specs.Table.{Table}
use Rattle.col_program.specs.Outcome.{outcome_status}
use Rattle.col_segments.specs.Segments.{HeldTable}
use Rattle.col_set_run.specs.Outcome.{final_table}
use Rattle.col_set_run.specs.Running.{step_statuses}
use Rattle.col_set_script.specs.SetScripts.{SetStep}
use Rattle.col_set_tool.specs.Runs.{set_statuses}
use Rattle.col_set_tool.specs.SetOutcome.{outcome_of_table, outcome_on}
use Rattle.col_writer_columns.specs.Answers.{answer_of, MayRefuse}

-- no status of a step is 6
not_six : (status : ℕ) → Contains step_statuses status → status ≡ 6 → ⊥
not_six status among is =
    let other : (status == 6) ≡ false =
    All-contains (λ n. (n == 6) ≡ false) step_statuses status (All-from_recursion (λ n. (n == 6) ≡ false) step_statuses
    (refl, (refl, (refl, (refl, (refl, (refl, (refl, (refl, (refl, tt)))))))))) among in
    let same : (6 == 6) ≡ false = subst (λ n. (n == 6) ≡ false) is other in cc

-- the refusal as one of three
abbrev pub IsRan : Result Table Refusal → ColumnarError → Type 0
IsRan expected e = (e ≡ WriteFault) ⊎ MayRefuse expected e

pub known-then : (hs : List HeldTable) (xs : List SetStep) (e : ColumnarError) → IsRan (final_table hs xs) e
    → Contains (outcome_status (outcome_on hs xs) ∷ 3 ∷ 4 ∷ 5 ∷ []) (code_of e)
known-then hs xs e (inl fault) = (3, omega arith, sym (ap code_of fault))
known-then hs xs e (inr (inl memory)) = (1, omega arith, sym (ap code_of memory))
known-then hs xs e (inr (inr (why, final, answer))) = (
  0,
  omega arith,
  ap (λ t. outcome_status (outcome_of_table hs xs t)) final ∙ sym (code-answer why) ∙ sym (ap code_of answer),
)

pub among-all : (status : ℕ) → Contains step_statuses status → Contains set_statuses status
among-all status (k, within, is) = (suc (suc (suc (suc (suc k)))), omega (arith, within), is)

module _ (expected : Result Table Refusal) (e : ColumnarError) where
  pub no-six : Contains step_statuses (code_of e) → code_of e ≡ 6 → ⊥
  no-six known six = not_six (code_of e) known six

  -- only a fault of writing and want of memory have a status below 6
  pub is-fault : IsRan expected e → code_of e ≡ 5 → e ≡ WriteFault
  is-fault (inl fault) five = fault
  is-fault (inr (inl memory)) five = absurd (omega (arith, ap code_of memory, five))
  is-fault (inr (inr (why, final, answer))) five =
      absurd (omega (arith, ap code_of answer, code-answer why, (status-bounds why).0, five))

  pub is-memory : IsRan expected e → code_of e ≡ 3 → e ≡ OutOfMemory
  is-memory (inl fault) three = absurd (omega (arith, ap code_of fault, three))
  is-memory (inr (inl memory)) three = memory
  is-memory (inr (inr (why, final, answer))) three =
      absurd (omega (arith, ap code_of answer, code-answer why, (status-bounds why).0, three))

  pub no-status : (n : ℕ) → n ≤ 4 → n ≢ 3 → IsRan expected e → code_of e ≡ n → ⊥
  no-status n few other (inl fault) is = omega (arith, ap code_of fault, is, few)
  no-status n few other (inr (inl memory)) is = other (sym is ∙ ap code_of memory)
  no-status n few other (inr (inr (why, final, answer))) is =
      omega (arith, ap code_of answer, code-answer why, (status-bounds why).0, is, few)

  pub few : (n : ℕ) → 17 < n → IsRan expected e → code_of e ≡ n → ⊥
  few n more (inl fault) is = omega (arith, ap code_of fault, is, more)
  few n more (inr (inl memory)) is = omega (arith, ap code_of memory, is, more)
  few n more (inr (inr (why, final, answer))) is =
      omega (arith, ap code_of answer, code-answer why, (status-bounds why).1, is, more)

  pub ill-bad : IsRan expected e → Contains (20 ∷ 21 ∷ []) (code_of e) → ⊥
  ill-bad ran (zero, within, is) = few 20 (omega arith) ran (sym is)
  ill-bad ran (suc zero, within, is) = few 21 (omega arith) ran (sym is)
  ill-bad ran (suc (suc n), within, is) = omega (arith, within)

  pub ill-none : IsRan expected e → Contains step_statuses (code_of e) → Contains (4 ∷ 6 ∷ []) (code_of e) → ⊥
  ill-none ran known (zero, within, is) = no-status 4 (omega arith) (λ e. cc) ran (sym is)
  ill-none ran known (suc zero, within, is) = no-six known (sym is)
  ill-none ran known (suc (suc n), within, is) = omega (arith, within)

  -- any other refusal is one of the definitions
  pub is-refusal : IsRan expected e → code_of e ≢ 3 → code_of e ≢ 5 → (why : Refusal) × (e ≡ answer_of why)
  is-refusal (inl fault) three five = absurd (five (ap code_of fault))
  is-refusal (inr (inl memory)) three five = absurd (three (ap code_of memory))
  is-refusal (inr (inr (why, final, answer))) three five = (why, answer)
