-- What a run of a set's script leaves of a disk, a source and two sinks, under each status.
use Rattle.std.specs.Prelude.{◌≡◌, ◌≢◌, ◌≤◌, ◌⊎◌, ◌+◌, ℕ, List, [], ◌∷◌, Contains, Some, None, Ok, Err, IfSome}
use Rattle.col_common.specs.Causes.{Rose}
use Rattle.col_common.specs.Outside.{SeenSink, AppendsNothing, Faulted, Grows, IsAtEnd, TakesAtMost, Told}
use Rattle.col_disk.specs.Crash.{Images, LeavesOnly, Only}
use Rattle.col_disk.specs.Disks.{SeenDisk, Stays, TellsAlike}
use Rattle.col_model.specs.Refusal.{Refusal, status_of}
use Rattle.col_model.specs.Table.{Table}
use Rattle.col_headline.specs.Headline.{CutShort, Merged, WholeFile}
use Rattle.col_program.specs.Outcome.{IsDone, max_script_length, outcome_status}
use Rattle.col_segments.specs.Live.{live, merged_alive}
use Rattle.col_segments.specs.Segments.{HeldTable, all_alive}
use Rattle.col_set.specs.Held.{held_by}
use Rattle.col_set.specs.Sets.{EachStands, IsHeldAlike}
use Rattle.col_set_run.specs.Outcome.{final_table, held_before, reached}
use Rattle.col_set_script.specs.SetScripts.{SetStep}
use Rattle.col_set_tool.specs.Runs.{IfBothTold, IsAfterSome, set_statuses}
use Rattle.col_set_tool.specs.SetOutcome.{readable, set_outcome, steps_in}

-- The disk holds just the table that the set is made in the end, whose rows are those behind all
-- steps.
abbrev pub HoldsFinal : Images → List ℕ → List ℕ → Type 0
HoldsFinal images bytes text = (hs ks : List HeldTable) (t : Table) → held_by bytes ≡ Some hs
    → reached hs (steps_in text) ≡ Ok ks → merged_alive ks ≡ Ok t
    → EachStands images (all_alive t ∷ []) × (live (all_alive t ∷ []) ≡ live ks)

pub record RunsSet (disk disk' : SeenDisk) (left left' : Told) (faults faults' : ℕ)
    (output output' report report' : SeenSink) (status : ℕ) : Type 0 where
  -- Whatever moment a crash comes, from a disk that holds a set and has nothing pending, its rows
  -- are those after some first steps of the script, none skipped and none in part.
  pub any_moment : IfBothTold disk.told left (λ bytes text. (hs : List HeldTable)
      → held_by bytes ≡ Some hs → Only bytes disk.images
      → LeavesOnly disk.images disk'.images (IsAfterSome hs (steps_in text)))
  -- From any other disk, what a crash might have left at the start may come too; from one that
  -- holds no set, nothing else.
  pub from_start : IfBothTold disk.told left (λ bytes text. LeavesOnly disk.images disk'.images
      (λ c. disk.images.may_leave c ⊎ ((hs : List HeldTable) × (held_by bytes ≡ Some hs)
      × IsAfterSome hs (steps_in text) c)))
  pub no_set_stays : IfSome disk.told (λ bytes. held_by bytes ≡ None
      → LeavesOnly disk.images disk'.images disk.images.may_leave)
  -- 0: the output grew by a file that stands for the set as one table, the report by the lines of
  -- the lookups, each over the rows that its step found, and of the row count ..
  pub headline : status ≡ 0 → IfBothTold disk.told left (λ bytes text.
      IsDone (set_outcome bytes text) (Merged output output' report report'))
  -- .. and the disk holds just this table.
  pub held : status ≡ 0 → IfBothTold disk.told left (HoldsFinal disk'.images)
  -- The status is the expected one, or 3 for want of memory, or that of a fault.
  pub known : IfBothTold disk.told left (λ bytes text.
      Contains (outcome_status (set_outcome bytes text) ∷ 3 ∷ 4 ∷ 5 ∷ []) status)
  -- Whatever is told, it is one of those that the program has, and 6 comes of a disk that holds no
  -- set alone.
  pub among : Contains set_statuses status
  pub no_set : status ≡ 6 → IfSome disk.told (λ bytes. held_by bytes ≡ None)
  -- A script with a status by itself has it, unless memory is wanting or it can't be read; any
  -- other script never has 20 or 21.
  pub bad_script : IfSome left (λ text. (own : ℕ) → readable text ≡ Err own
      → (status ≡ own) ⊎ ((status ≡ 3) ⊎ ((status ≡ 4) × Rose faults faults')))
  pub good_script : IfSome left (λ text. (xs : List SetStep) → readable text ≡ Ok xs
      → (status ≢ 20) × (status ≢ 21))
  -- Where it is that of a step's refusal, the disk holds what it held before that step.
  pub refused : IfBothTold disk.told left (λ bytes text. (hs : List HeldTable) (r : Refusal)
      → held_by bytes ≡ Some hs → final_table hs (steps_in text) ≡ Err r → status ≡ status_of r
      → EachStands disk'.images (held_before hs (steps_in text)))
  pub read_fault : status ≡ 4 → Rose faults faults' ⊎ Rose disk.faults disk'.faults
  pub write_fault : status ≡ 5
      → Rose disk.faults disk'.faults ⊎ (Faulted output output' ⊎ Faulted report report')
  -- A bad script leaves the disk untouched; where the script or the disk can't be read, or the disk
  -- holds no set, no step was taken.
  pub untouched : Contains (20 ∷ 21 ∷ []) status
      → Stays disk disk' × (disk'.faults ≡ disk.faults)
  pub no_step : Contains (4 ∷ 6 ∷ []) status → IfSome disk.told (λ bytes. LeavesOnly
      disk.images disk'.images (λ c. disk.images.may_leave c ⊎ IsHeldAlike bytes c))
  -- what the sinks are left with by a fault, by want of memory, and by any other refusal; the
  -- output is written once the disk holds the one table
  pub cut_short : status ≡ 5 → (Rose disk.faults disk'.faults × AppendsNothing output output'
      × AppendsNothing report report') ⊎ IfBothTold disk.told left (λ bytes text.
      IsDone (set_outcome bytes text) (CutShort output output' report report')
      × HoldsFinal disk'.images bytes text)
  pub memory : status ≡ 3 → AppendsNothing report report' × (AppendsNothing output output'
      ⊎ IfBothTold disk.told left (λ bytes text.
      IsDone (set_outcome bytes text) (WholeFile output output')
      × HoldsFinal disk'.images bytes text))
  pub nothing : status ≢ 0 → status ≢ 3 → status ≢ 5
      → AppendsNothing output output' × AppendsNothing report report'
  pub grown : Grows output output' × Grows report report'
  -- no count of faults falls, and what told goes on telling
  pub later : (faults ≤ faults') × (disk.faults ≤ disk'.faults)
      × (output.faults ≤ output'.faults) × (report.faults ≤ report'.faults)
  pub tells : TellsAlike disk.told disk'.told
  -- At most one byte more than the longest script is taken; a script that isn't too long is read to
  -- its end, unless that fails or wants memory.
  pub taken : TakesAtMost (max_script_length + 1) left left'
  pub ended : status ≢ 3 → status ≢ 4 → status ≢ 21 → IsAtEnd left'
