-- A set that stays as it is.
use Rattle.std.proofs.Common.{◌≡◌, ◌⊎◌, ◌∙◌, inl, inr, ℕ, true, false, List, Result, Ok, Err, IfSome, refl, sym, arith}
use Rattle.std.specs.Prelude.{IfErr, OnErr, OnOk}
use Rattle.col_common.specs.declared.error.ColumnarError.{ColumnarError}
use Rattle.col_common.specs.declared.error.ColumnarError.TheVariants.{OutOfMemory, WriteFault}
use Rattle.col_common.proofs.OnOkLemmas.{same-error}
use Rattle.col_disk.specs.Disks.{SeenDisk}
use Rattle.col_disk.proofs.Moments.{started}
use Rattle.col_model.specs.Refusal.{Refusal, invalid_data, bad_order, bad_name, required_conflict, cannot_coerce, numerical_conflict, too_large, forced_type, doc_order, doc_out_of_range, tie_breaker_start}
use Rattle.col_set.specs.Segments.{HeldTable}
use Rattle.col_set.specs.Sets.{SeenSet, ChangesSet, EachStands, IsBeforeOrGiven}
use Rattle.col_set.proofs.LeaveLemmas.{if_told}
use Rattle.col_writer_columns.specs.Answers.{answer_of, MayRefuse}

-- no refusal of the definitions is a fault of writing
pub not-fault : (r : Refusal) → answer_of r ≡ WriteFault → ⊥
not-fault invalid_data e = cc
not-fault bad_order e = cc
not-fault bad_name e = cc
not-fault required_conflict e = cc
not-fault cannot_coerce e = cc
not-fault numerical_conflict e = cc
not-fault too_large e = cc
not-fault forced_type e = cc
not-fault doc_order e = cc
not-fault doc_out_of_range e = cc
not-fault tie_breaker_start e = cc

-- nor is it want of memory
pub not-memory : (r : Refusal) → answer_of r ≡ OutOfMemory → ⊥
not-memory invalid_data e = cc
not-memory bad_order e = cc
not-memory bad_name e = cc
not-memory required_conflict e = cc
not-memory cannot_coerce e = cc
not-memory numerical_conflict e = cc
not-memory too_large e = cc
not-memory forced_type e = cc
not-memory doc_order e = cc
not-memory doc_out_of_range e = cc
not-memory tie_breaker_start e = cc

-- a refusal that is expected, or want of memory, is no fault
pub no-fault : {A : Type 0} (expected : Result A Refusal) (e : ColumnarError) → MayRefuse expected e → e ≡ WriteFault → ⊥
no-fault expected e (inl memory) fault = let same : OutOfMemory ≡ WriteFault = sym memory ∙ fault in cc
no-fault expected e (inr (r, is, answer)) fault = not-fault r (sym answer ∙ fault)

-- what a call answers that leaves a set alone
abbrev pub IsUnchanging : Result (Unit {0}) ColumnarError → List HeldTable → Result (List HeldTable) Refusal → Type 0
IsUnchanging result hs expected = OnOk result (expected ≡ Ok hs) × IfErr result (MayRefuse expected)

module _ {D : Type 0} (see : D → SeenDisk) (set : SeenSet D) (works : set.failed ≡ false)
    (only : (c : List ℕ) → (see set.disk).images.left_since (see set.disk).images.clock c → (see set.disk).images.may_leave c)
    (stands : IfSome (see set.disk).told (λ _. EachStands (see set.disk).images set.held)) where
  -- such a call changes the set as it is to
  pub stays : (result : Result (Unit {0}) ColumnarError) (expected : Result (List HeldTable) Refusal)
      → IsUnchanging result set.held expected → ChangesSet see set set result expected
  stays result expected (ok, refused) = record {
    ok = ok;
    refused = by result refused;
    write_fault = λ fault. absurd (unfailed result refused fault);
    kept = kept result;
    failed = (λ failed. absurd (let e : true ≡ false = sym failed ∙ works in cc), λ fault. absurd (unfailed result refused fault));
    later = omega arith;
    tells = refl;
    any_moment =
        if_told (see set.disk).told (λ _ each. started (see set.disk).images (IsBeforeOrGiven set.held expected) only
        (λ c left. inl (each c left))) stands;
    now = λ _. stands;
  }
    where
      by : (r : Result (Unit {0}) ColumnarError) → IfErr r (MayRefuse expected) → IfErr r (λ e. (e ≡ WriteFault) ⊎ MayRefuse expected e)
      by (Ok done) h = tt
      by (Err e) h = inr h

      unfailed : (r : Result (Unit {0}) ColumnarError) → IfErr r (MayRefuse expected) → r ≡ Err WriteFault → ⊥
      unfailed (Ok done) h fault = cc
      unfailed (Err e) h fault = no-fault expected e h (same-error e WriteFault fault)

      kept : (r : Result (Unit {0}) ColumnarError) → OnErr r (set.held ≡ set.held)
      kept (Ok done) = tt
      kept (Err e) = refl
