-- What a run of a set's script leaves.
use Rattle.std.specs.Prelude.{◌≡◌, ◌≤◌, ◌⊎◌, ℕ, Bool, false, List, [], ◌∷◌, length, take, Some, Result, Ok, Err, IfSome, IfErr, OnOk}
use Rattle.col_common.specs.Causes.{Rose}
use Rattle.col_common.specs.Outside.{SeenSink, AppendsNothing, Faulted, Grows, Told}
use Rattle.col_common.specs.declared.error.ColumnarError.{ColumnarError}
use Rattle.col_common.specs.declared.error.ColumnarError.TheVariants.{OutOfMemory, WriteFault}
use Rattle.col_disk.specs.Crash.{LeavesOnly}
use Rattle.col_disk.specs.Disks.{SeenDisk, TellsAlike}
use Rattle.col_model.specs.Refusal.{Refusal}
use Rattle.col_model.specs.Table.{Table}
use Rattle.col_headline.specs.Headline.{CutShort, Merged, WholeFile}
use Rattle.col_program.specs.Outcome.{IsDone}
use Rattle.col_segments.specs.Live.{live}
use Rattle.col_segments.specs.Segments.{HeldTable, all_alive}
use Rattle.col_set.specs.Held.{held_by}
use Rattle.col_set.specs.Sets.{SeenSet, EachStands}
use Rattle.col_set_run.specs.Outcome.{final_table, held_before, reached}
use Rattle.col_set_run.specs.Running.{IsStepAnswer, step_statuses}
use Rattle.col_set_script.specs.SetScripts.{SetStep}
use Rattle.col_set_tool.specs.SetOutcome.{outcome_on}
use Rattle.col_writer_columns.specs.Answers.{answer_of, MayRefuse}

-- the statuses that a run may have: the good end, a script and a disk that can't be read, and a
-- disk that holds no set, beside those of steps
abbrev pub set_statuses : List ℕ
set_statuses = 0 ∷ 4 ∷ 6 ∷ 20 ∷ 21 ∷ step_statuses

-- where the disk and the script tell their bytes
abbrev pub IfBothTold : Told → Told → (List ℕ → List ℕ → Type 0) → Type 0
IfBothTold disk script P = IfSome disk (λ bytes. IfSome script (P bytes))

-- The bytes hold the rows after the first so many steps, none skipped and none in part.
pub record IsAfterSome (hs : List HeldTable) (xs : List SetStep) (c : List ℕ) : Type 0 where
  pub steps : ℕ
  pub within : steps ≤ length xs
  pub after : List HeldTable
  pub is : reached hs (take steps xs) ≡ Ok after
  pub held : List HeldTable
  pub bytes : held_by c ≡ Some held
  pub same : live held ≡ live after

-- a set that works holds just the table that it is made in the end
abbrev pub IsMadeOne : List HeldTable → List HeldTable → Bool → List SetStep → Type 0
IsMadeOne hs new failed xs = (failed ≡ false)
    × ((t : Table) → final_table hs xs ≡ Ok t → new ≡ all_alive t ∷ [])

-- What a run over an open set answers and leaves, of its tables and its steps.
pub record RunsWhole {D : Type 0} (see : D → SeenDisk) (old new : SeenSet D)
    (output output' report report' : SeenSink) (xs : List SetStep)
    (result : Result (Unit {0}) ColumnarError) : Type 0 where
  -- Ok: the table's file and the lines are written, and the set holds the table
  pub done : OnOk result (IsDone (outcome_on old.held xs) (Merged output output' report report'))
  pub held : OnOk result
      ((t : Table) → final_table old.held xs ≡ Ok t → new.held ≡ all_alive t ∷ [])
  -- a refusal is the first one, which leaves the tables before it and the sinks
  pub refused : IfErr result (λ e. (e ≡ WriteFault) ⊎ MayRefuse (final_table old.held xs) e)
  pub known : IsStepAnswer result
  pub kept : (r : Refusal) → result ≡ Err (answer_of r) → new.held ≡ held_before old.held xs
  pub nothing : (r : Refusal) → result ≡ Err (answer_of r)
      → AppendsNothing output output' × AppendsNothing report report'
  -- a fault of the disk leaves nothing; one of a sink the front of the file and of the lines, and
  -- want of memory nothing or the file, where the set holds the table
  pub cut_short : result ≡ Err WriteFault → (Rose (see old.disk).faults (see new.disk).faults
      × AppendsNothing output output' × AppendsNothing report report')
      ⊎ (IsDone (outcome_on old.held xs) (CutShort output output' report report')
      × IsMadeOne old.held new.held new.failed xs)
  pub write_fault : result ≡ Err WriteFault → Rose (see old.disk).faults (see new.disk).faults
      ⊎ (Faulted output output' ⊎ Faulted report report')
  pub memory : result ≡ Err OutOfMemory → AppendsNothing report report'
      × (AppendsNothing output output'
      ⊎ (IsDone (outcome_on old.held xs) (WholeFile output output')
      × IsMadeOne old.held new.held new.failed xs))
  pub grown : Grows output output' × Grows report report'
  pub later : ((see old.disk).faults ≤ (see new.disk).faults)
      × (output.faults ≤ output'.faults) × (report.faults ≤ report'.faults)
  pub tells : TellsAlike (see old.disk).told (see new.disk).told
  -- a crash at any moment leaves the rows after some first steps; unless the disk failed, each
  -- image now stands for what is held
  pub any_moment : IfSome (see old.disk).told (λ _.
      LeavesOnly (see old.disk).images (see new.disk).images (IsAfterSome old.held xs))
  pub works : (result ≡ Err WriteFault → ⊥) → new.failed ≡ false
  pub now : new.failed ≡ false
      → IfSome (see old.disk).told (λ _. EachStands (see new.disk).images new.held)
