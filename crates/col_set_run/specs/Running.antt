-- What running the steps of a set's script answers and leaves.
use Rattle.std.specs.Prelude.{◌≡◌, ◌↔◌, ◌≤◌, ◌⊎◌, ℕ, true, false, List, [], ◌∷◌, length, take, Some, Result, Ok, Err, IfSome, IfErr, OnOk, Contains}
use Rattle.col_common.specs.Causes.{Rose}
use Rattle.col_common.specs.Refused.{code_of}
use Rattle.col_common.specs.declared.error.ColumnarError.{ColumnarError}
use Rattle.col_common.specs.declared.error.ColumnarError.TheVariants.{WriteFault}
use Rattle.col_disk.specs.Crash.{LeavesOnly}
use Rattle.col_disk.specs.Disks.{SeenDisk, TellsAlike}
use Rattle.col_model.specs.Refusal.{Refusal}
use Rattle.col_program.specs.Report.{Prints}
use Rattle.col_set.specs.Segments.{HeldTable}
use Rattle.col_set.specs.Held.{held_by}
use Rattle.col_set.specs.Sets.{SeenSet, ChangesSet, EachStands}
use Rattle.col_set_run.specs.Outcome.{after_step, found_lines, held_before, reached, step_lines}
use Rattle.col_set_script.specs.SetScripts.{SetStep}
use Rattle.col_writer_columns.specs.Answers.{answer_of, MayRefuse}

-- the statuses of refusals of steps
abbrev pub step_refusals : List ℕ
step_refusals = 7 ∷ 11 ∷ 12 ∷ 14 ∷ 15 ∷ 16 ∷ 17 ∷ []

-- those, and the ones for want of memory and for a fault of writing
abbrev pub step_statuses : List ℕ
step_statuses = 3 ∷ 5 ∷ step_refusals

-- the answer, if it is a refusal, is among those of steps
abbrev pub IsStepAnswer : Result (Unit {0}) ColumnarError → Type 0
IsStepAnswer result = IfErr result (λ e. Contains step_statuses (code_of e))

-- What a step answers and leaves: it changes the set as it is to, and a lookup prints its line.
pub record TakesStep {D : Type 0} (see : D → SeenDisk) (old new : SeenSet D)
    (before after : List ℕ) (x : SetStep) (result : Result (Unit {0}) ColumnarError)
    : Type 0 where
  pub changes : ChangesSet see old new result (after_step x old.held)
  pub lines : OnOk result (Prints before after (step_lines x old.held))
  pub known : IsStepAnswer result

-- The bytes stand for the tables after the first so many steps, none skipped and none in part.
pub record IsReached (hs : List HeldTable) (xs : List SetStep) (c : List ℕ) : Type 0 where
  pub steps : ℕ
  pub within : steps ≤ length xs
  pub after : List HeldTable
  pub is : reached hs (take steps xs) ≡ Ok after
  pub held : held_by c ≡ Some after

-- The tables are those after the first so many steps, none skipped and none in part.
pub record IsPrefix (hs : List HeldTable) (xs : List SetStep) (after : List HeldTable) : Type 0 where
  pub steps : ℕ
  pub within : steps ≤ length xs
  pub is : reached hs (take steps xs) ≡ Ok after

-- What running steps answers and leaves: a crash at any moment leaves the tables after some prefix
-- of the steps; Ok leaves those after all of them, and a refusal is the first one, which leaves
-- those before it.
pub record RunsSteps {D : Type 0} (see : D → SeenDisk) (old new : SeenSet D)
    (before after : List ℕ) (xs : List SetStep) (result : Result (Unit {0}) ColumnarError)
    : Type 0 where
  pub ok : OnOk result (reached old.held xs ≡ Ok new.held)
  pub lines : OnOk result (Prints before after (found_lines old.held xs))
  pub known : IsStepAnswer result
  pub refused : IfErr result (λ e. (e ≡ WriteFault) ⊎ MayRefuse (reached old.held xs) e)
  pub kept : (r : Refusal) → result ≡ Err (answer_of r)
      → new.held ≡ held_before old.held xs
  -- whatever is answered, some first steps were taken
  pub some : IsPrefix old.held xs new.held
  pub write_fault : result ≡ Err WriteFault → Rose (see old.disk).faults (see new.disk).faults
  pub failed : (new.failed ≡ true) ↔ (result ≡ Err WriteFault)
  pub later : (see old.disk).faults ≤ (see new.disk).faults
  pub tells : TellsAlike (see old.disk).told (see new.disk).told
  pub any_moment : IfSome (see old.disk).told (λ _.
      LeavesOnly (see old.disk).images (see new.disk).images (IsReached old.held xs))
  pub now : new.failed ≡ false
      → IfSome (see old.disk).told (λ _. EachStands (see new.disk).images new.held)
