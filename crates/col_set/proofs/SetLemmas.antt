-- What the calls of a set leave.
use Rattle.std.proofs.Common.{◌≡◌, ◌⊎◌, inl, inr, ⊎_elim, ℕ, Bool, false, List, Some, Result, Ok, Err, IfSome, refl, sym, ap, ◌∙◌, subst, arith}
use Rattle.col_common.specs.declared.error.ColumnarError.{ColumnarError}
use Rattle.col_common.specs.declared.error.ColumnarError.TheVariants.{OutOfMemory, WriteFault}
use Rattle.col_disk.specs.Crash.{LeavesOnly}
use Rattle.col_disk.specs.Disks.{SeenDisk, TellsAlike}
use Rattle.col_disk.proofs.Moments.{leaves_weaker, started}
use Rattle.col_model.specs.Refusal.{Refusal, invalid_data, bad_order, bad_name, required_conflict, cannot_coerce, numerical_conflict, too_large, forced_type, doc_order, doc_out_of_range, tie_breaker_start}
use Rattle.col_segments.specs.Segments.{HeldTable}
use Rattle.col_set.specs.Held.{Stands, held_by}
use Rattle.col_set.specs.Sets.{StandsUnlessFailed, EachStands, IsBeforeOrGiven, IsCompactAnswer, ChangesParts, LeavesChange}
use Rattle.col_set.proofs.HeldLemmas.{each-stands}
use Rattle.col_set.proofs.LeaveLemmas.{if_told, retold}
use Rattle.col_writer_columns.specs.Answers.{answer_of, MayRefuse}

-- ---- refusals

no_fault_answer : (r : Refusal) → WriteFault ≡ answer_of r → ⊥
no_fault_answer invalid_data e = cc
no_fault_answer bad_order e = cc
no_fault_answer bad_name e = cc
no_fault_answer required_conflict e = cc
no_fault_answer cannot_coerce e = cc
no_fault_answer numerical_conflict e = cc
no_fault_answer too_large e = cc
no_fault_answer forced_type e = cc
no_fault_answer doc_order e = cc
no_fault_answer doc_out_of_range e = cc
no_fault_answer tie_breaker_start e = cc

-- a refusal that is expected is no fault
refused_no_fault : (expected : Result (List HeldTable) Refusal) (e : ColumnarError) → MayRefuse expected e
    → ◌≡◌ {A = Result (Unit {0}) ColumnarError} (Err e) (Err WriteFault) → ⊥
refused_no_fault expected e (inl memory) same = let is : OutOfMemory ≡ WriteFault = cc in cc
refused_no_fault expected e (inr (r, at, is)) same = let one : e ≡ WriteFault = cc in no_fault_answer r (sym one ∙ is)

-- a call that wrote is stopped for reasons that a compaction has
pub stopped-known : (e : ColumnarError) → (e ≡ WriteFault) ⊎ (e ≡ OutOfMemory) → IsCompactAnswer e
stopped-known e (inl fault) = inr (inl fault)
stopped-known e (inr memory) = inl memory

-- ---- the parts of a set

-- each image stands for what is held
pub now-stands : (disk : SeenDisk) (gate : ℕ) (hs : List HeldTable) → IfSome disk.told (λ _. Stands disk gate hs)
    → IfSome disk.told (λ _. EachStands disk.images hs)
now-stands disk gate hs stands = if_told disk.told (λ _ s. each-stands disk gate hs s) stands

module _ {D : Type 0} (see : D → SeenDisk) where
  -- A call that refused before it wrote.
  pub parts-refused : (disk : D) (gate : ℕ) (hs same : List HeldTable) (f : Bool) (e : ColumnarError)
      (expected : Result (List HeldTable) Refusal)
      → ((c : List ℕ) → (see disk).images.left_since (see disk).images.clock c → (see disk).images.may_leave c)
      → f ≡ false → StandsUnlessFailed (see disk) gate hs f → same ≡ hs → MayRefuse expected e
      → ChangesParts see disk disk gate hs same f (Err e) expected
  parts-refused disk gate hs same f e expected only works is_set is may =
      subst (λ (g : Bool). ChangesParts see disk disk gate hs same g (Err e) expected) (sym works)
      (subst (λ (k : List HeldTable). ChangesParts see disk disk gate hs k false (Err e) expected) (sym is) unchanged)
    where
      stands : IfSome (see disk).told (λ _. Stands (see disk) gate hs)
      stands = is_set works

      unchanged : ChangesParts see disk disk gate hs hs false (Err e) expected
      unchanged = record {
        changes = record {
          ok = tt;
          refused = inr may;
          write_fault = λ same. absurd (refused_no_fault expected e may same);
          kept = refl;
          failed = (λ f. absurd (cc f), λ same. absurd (refused_no_fault expected e may same));
          later = omega arith;
          tells = refl;
          any_moment =
              if_told (see disk).told (λ _ s. started (see disk).images (IsBeforeOrGiven hs expected) only
              (λ c left. inl (each-stands (see disk) gate hs s c left))) stands;
          now = λ _. now-stands (see disk) gate hs stands;
        };
        stands = λ _. stands;
      }

  -- A call that added a change of what is held, by which it is what is expected.
  module _ (old new : D) (gate : ℕ) (hs after given : List HeldTable) (failed : Bool) (expected : Result (List HeldTable) Refusal)
      (is : expected ≡ Ok after) where
    moments : (r : Result (Unit {0}) ColumnarError) → LeavesChange (see old) (see new) gate hs after failed r
        → IfSome (see old).told (λ _. LeavesOnly (see old).images (see new).images (IsBeforeOrGiven hs expected))
    moments r left =
        if_told (see old).told (λ _ run.
        leaves_weaker (λ c. (held_by c ≡ Some hs) ⊎ (held_by c ≡ Some after)) (IsBeforeOrGiven hs expected) run
        (λ c which. ⊎_elim (λ before. inl before) (λ made. inr (after, is, made)) which)) left.any_moment

    -- each image now stands for what is held, as told of the disk before
    each-now : TellsAlike (see old).told (see new).told → StandsUnlessFailed (see new) gate given failed → failed ≡ false
        → IfSome (see old).told (λ _. EachStands (see new).images given)
    each-now tells is_set still =
        retold (EachStands (see new).images given) (see new).told (see old).told (sym tells)
        (now-stands (see new) gate given (is_set still))

    -- Ok
    pub parts-ok : given ≡ after → LeavesChange (see old) (see new) gate hs after failed (Ok tt)
        → ChangesParts see old new gate hs given failed (Ok tt) expected
    parts-ok same left = record {
      changes = record {
        ok = is ∙ ap Ok (sym same);
        refused = tt;
        write_fault = λ e. absurd (cc e);
        kept = tt;
        failed = left.failed;
        later = left.later;
        tells = left.tells;
        any_moment = moments (Ok tt) left;
        now = each-now left.tells stands;
      };
      stands = stands;
    }
      where
        stands : StandsUnlessFailed (see new) gate given failed
        stands still = subst (λ (k : List HeldTable). IfSome (see new).told (λ _. Stands (see new) gate k)) (sym same) left.done

    -- a refusal
    pub parts-err : (e : ColumnarError) → given ≡ hs → LeavesChange (see old) (see new) gate hs after failed (Err e)
        → ChangesParts see old new gate hs given failed (Err e) expected
    parts-err e same left = record {
      changes = record {
        ok = tt;
        refused = by left.known;
        write_fault = λ fault. ((after, is), left.fault fault);
        kept = same;
        failed = left.failed;
        later = left.later;
        tells = left.tells;
        any_moment = moments (Err e) left;
        now = each-now left.tells stands;
      };
      stands = stands;
    }
      where
        by : (e ≡ WriteFault) ⊎ (e ≡ OutOfMemory) → (e ≡ WriteFault) ⊎ MayRefuse expected e
        by (inl fault) = inl fault
        by (inr memory) = inr (inl memory)

        stands : StandsUnlessFailed (see new) gate given failed
        stands still =
            subst (λ (k : List HeldTable). IfSome (see new).told (λ _. Stands (see new) gate k)) (sym same) (left.stopped still)
