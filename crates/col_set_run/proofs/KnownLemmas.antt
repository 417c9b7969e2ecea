-- Which refusals steps have.
use Rattle.std.proofs.Common.{◌≡◌, ◌⊎◌, ◌∙◌, inl, inr, ℕ, suc, ◌+◌, ◌^◌, not, nat_le, List, [], ◌∷◌, ◌++◌, Result, Ok, Err, Contains, refl, sym, ap, subst, arith}
use Rattle.col_common.specs.Refused.{code_of}
use Rattle.col_common.specs.declared.error.ColumnarError.{ColumnarError}
use Rattle.col_common.specs.declared.error.ColumnarError.TheVariants.{WriteFault}
use Rattle.col_headline.proofs.StatusLemmas.{code-answer}
use Rattle.col_model.specs.Refusal.{Refusal, status_of, bad_order, too_large}
use Rattle.col_program.specs.Outcome.{segment_table}
use Rattle.col_program.specs.Script.{Segment}
use Rattle.col_script.proofs.RefusalLemmas.{Allows, AllowsSegments, allows-then, allows-test, allows-segment}
use Rattle.col_set.specs.Compaction.{CompactsOrConflicts, IsCompactRefusal}
use Rattle.col_set.specs.Live.{compacted}
use Rattle.col_set.specs.Segments.{HeldTable, alive_count, all_alive, are_places, without}
use Rattle.col_set_run.specs.Outcome.{after_step, with_segment, with_table}
use Rattle.col_set_run.specs.Running.{step_refusals, step_statuses}
use Rattle.col_set_script.specs.SetScripts.{SetStep, add, drop_rows, merge_all, find_rows}
use Rattle.col_writer_columns.specs.Answers.{answer_of, MayRefuse}

-- the refusal is one of steps
abbrev pub IsStep : Refusal → Type 0
IsStep r = Contains step_refusals (status_of r)

of-segments : AllowsSegments IsStep
of-segments = record {
  forced_type = (3, omega arith, refl);
  doc_order = (4, omega arith, refl);
  too_large = (2, omega arith, refl);
  numerical_conflict = (1, omega arith, refl);
  tie_breaker_start = (6, omega arith, refl);
  doc_out_of_range = (5, omega arith, refl);
  bad_order = (0, omega arith, refl);
}

segment-allowed : (s : Segment) (hs : List HeldTable) → Allows IsStep (with_segment s hs)
segment-allowed s hs =
    allows-then IsStep (segment_table s) (with_table hs) (allows-segment IsStep of-segments s)
    (λ t. allows-test IsStep (nat_le (2 ^ 32) (alive_count hs + t.row_count)) too_large (Ok (hs ++ all_alive t ∷ [])) (2, omega arith, refl)
    tt)

compacted-allowed : (hs : List HeldTable) → CompactsOrConflicts hs → Allows IsStep (compacted hs)
compacted-allowed hs conflicts = by (compacted hs) conflicts
  where
    of : (r : Refusal) → IsCompactRefusal r → IsStep r
    of r (inl conflict) = rw conflict (1, omega arith, refl)
    of r (inr large) = rw large (2, omega arith, refl)

    by : (c : Result (List HeldTable) Refusal) → ((r : Refusal) → c ≡ Err r → IsCompactRefusal r) → Allows IsStep c
    by (Ok ks) h = tt
    by (Err r) h = of r (h r refl)

-- each step refuses as one of them
pub step-allowed : (x : SetStep) (hs : List HeldTable) → CompactsOrConflicts hs → Allows IsStep (after_step x hs)
step-allowed (add s) hs conflicts = segment-allowed s hs
step-allowed (drop_rows ids) hs conflicts =
    allows-test IsStep (not (are_places 0 (alive_count hs) ids)) bad_order (Ok (without ids 0 hs)) (0, omega arith, refl) tt
step-allowed merge_all hs conflicts = compacted-allowed hs conflicts
step-allowed (find_rows l) hs conflicts = tt

-- refusals are among the statuses of steps
among-statuses : (status : ℕ) → Contains step_refusals status → Contains step_statuses status
among-statuses status (k, within, is) = (suc (suc k), omega (arith, within), is)

refusal-known : (r : Refusal) (e : ColumnarError) → e ≡ answer_of r → IsStep r → Contains step_statuses (code_of e)
refusal-known r e answer h =
    subst (Contains step_statuses) (sym (ap code_of answer ∙ code-answer r)) (among-statuses (status_of r) h)

-- so does a call that refuses as is expected, or for a fault or want of memory
pub answer-known : {A : Type 0} (expected : Result A Refusal) (e : ColumnarError) → Allows IsStep expected
    → (e ≡ WriteFault) ⊎ MayRefuse expected e → Contains step_statuses (code_of e)
answer-known expected e allowed (inl fault) = (1, omega arith, sym (ap code_of fault))
answer-known expected e allowed (inr (inl memory)) = (0, omega arith, sym (ap code_of memory))
answer-known expected e allowed (inr (inr (r, is, answer))) = refusal-known r e answer (subst (Allows IsStep) is allowed)
