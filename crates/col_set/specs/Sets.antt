-- Sets of segments on disks.
use Rattle.std.specs.Prelude.{◌≡◌, ◌⊎◌, ◌↔◌, ◌<◌, ◌≤◌, ◌+◌, ◌^◌, ℕ, Bool, true, false, List, Some, None, Result, Ok, Err, IfSome, IfOk, IfErr, OnOk, OnErr}
use Rattle.col_common.specs.Causes.{Rose}
use Rattle.col_common.specs.Outside.{SeenSink, Appends, AppendsNothing, AppendsPrefix, Faulted}
use Rattle.col_common.specs.declared.error.ColumnarError.{ColumnarError}
use Rattle.col_common.specs.declared.error.ColumnarError.TheVariants.{OutOfMemory, ReadFault, WriteFault, InvalidData, NumericalConflict, TooLarge}
use Rattle.col_disk.specs.Crash.{Images, LeavesOnly}
use Rattle.col_disk.specs.Disks.{SeenDisk, TellsAlike}
use Rattle.col_model.specs.File.{StandsFor}
use Rattle.col_model.specs.Refusal.{Refusal}
use Rattle.col_model.specs.Table.{Table}
use Rattle.col_segments.specs.Live.{compacted, live, merged_alive}
use Rattle.col_segments.specs.Segments.{HeldTable}
use Rattle.col_set.specs.Held.{Stands, held_by}
use Rattle.col_writer_columns.specs.Answers.{MayRefuse}

-- what contracts see of a set: its disk, its tables with the rows alive in each, and whether a
-- fault of the disk has ended its changes
pub record SeenSet (D : Type 0) : Type 0 where
  pub disk : D
  pub held : List HeldTable
  pub failed : Bool

-- each image that a crash may leave now stands for the tables
abbrev pub EachStands : Images → List HeldTable → Type 0
EachStands images hs = (c : List ℕ) → images.may_leave c → held_by c ≡ Some hs

-- what holds of every set: each image stands for the tables, unless the disk has failed
abbrev pub StandsUnlessFailed : SeenDisk → ℕ → List HeldTable → Bool → Type 0
StandsUnlessFailed disk gate hs failed =
    failed ≡ false → IfSome disk.told (λ _. Stands disk gate hs)

-- ---- changes

-- The bytes stand for the tables before a change, or for those that its Ok gives.
abbrev pub IsBeforeOrGiven : List HeldTable → Result (List HeldTable) Refusal → List ℕ → Type 0
IsBeforeOrGiven before expected c = (held_by c ≡ Some before)
    ⊎ ((after : List HeldTable) × (expected ≡ Ok after) × (held_by c ≡ Some after))

-- some tables are expected, and no refusal
abbrev pub IsGiven : Result (List HeldTable) Refusal → Type 0
IsGiven expected = (after : List HeldTable) × (expected ≡ Ok after)

-- What a call that changes a set answers, of the tables that are expected or the refusal, and
-- what it leaves.
pub record ChangesSet {D : Type 0} (see : D → SeenDisk) (old new : SeenSet D)
    (result : Result (Unit {0}) ColumnarError) (expected : Result (List HeldTable) Refusal)
    : Type 0 where
  -- Ok is the change; a refusal is the one that is expected, want of memory, or a fault of the
  -- disk where none is expected, and leaves the tables
  pub ok : OnOk result (expected ≡ Ok new.held)
  pub refused : IfErr result (λ e. (e ≡ WriteFault) ⊎ MayRefuse expected e)
  pub write_fault : result ≡ Err WriteFault
      → IsGiven expected × Rose (see old.disk).faults (see new.disk).faults
  pub kept : OnErr result (new.held ≡ old.held)
  -- a fault, and nothing else, ends the changes
  pub failed : (new.failed ≡ true) ↔ (result ≡ Err WriteFault)
  pub later : (see old.disk).faults ≤ (see new.disk).faults
  pub tells : TellsAlike (see old.disk).told (see new.disk).told
  -- each image since the call's start stands for the tables before it or for those that Ok gives ..
  pub any_moment : IfSome (see old.disk).told (λ _. LeavesOnly
      (see old.disk).images (see new.disk).images (IsBeforeOrGiven old.held expected))
  -- .. and unless the disk failed, each image now stands for the tables that are held
  pub now : new.failed ≡ false
      → IfSome (see old.disk).told (λ _. EachStands (see new.disk).images new.held)

-- The same of the parts of a set that works: its disk, where the journal ends on it, its tables,
-- and the note of a fault; they are those of a set again.
pub record ChangesParts {D : Type 0} (see : D → SeenDisk) (old new : D) (gate : ℕ)
    (hs ks : List HeldTable) (failed : Bool) (result : Result (Unit {0}) ColumnarError)
    (expected : Result (List HeldTable) Refusal) : Type 0 where
  pub changes : ChangesSet see
      (record { disk = old; held = hs; failed = false })
      (record { disk = new; held = ks; failed = failed }) result expected
  pub stands : StandsUnlessFailed (see new) gate ks failed

-- What adding a change leaves of a disk whose images stood for these tables, of which it makes
-- those, and of the note of a fault.
pub record LeavesChange (old new : SeenDisk) (gate : ℕ) (hs after : List HeldTable)
    (noted : Bool) (result : Result (Unit {0}) ColumnarError) : Type 0 where
  pub done : OnOk result (IfSome new.told (λ _. Stands new gate after))
  pub stopped : noted ≡ false → OnErr result (IfSome new.told (λ _. Stands new gate hs))
  pub known : IfErr result (λ e. (e ≡ WriteFault) ⊎ (e ≡ OutOfMemory))
  pub fault : result ≡ Err WriteFault → Rose old.faults new.faults
  pub failed : (noted ≡ true) ↔ (result ≡ Err WriteFault)
  pub any_moment : IfSome old.told (λ _. LeavesOnly old.images new.images
      (λ c. (held_by c ≡ Some hs) ⊎ (held_by c ≡ Some after)))
  pub tells : TellsAlike old.told new.told
  pub later : old.faults ≤ new.faults

-- ---- compactions

-- the answer without its value
abbrev pub done_of : {T : Type 0} → Result T ColumnarError → Result (Unit {0}) ColumnarError
done_of (Ok value) = Ok tt
done_of (Err e) = Err e

-- why a compaction refuses: want of memory, a fault of the disk, or one of the two refusals that a
-- merge of rows that are there may have
abbrev pub IsCompactAnswer : ColumnarError → Type 0
IsCompactAnswer e = (e ≡ OutOfMemory)
    ⊎ ((e ≡ WriteFault) ⊎ ((e ≡ NumericalConflict) ⊎ (e ≡ TooLarge)))

-- Ok added just these bytes, a fault of the sink some of the first of them, want of memory none.
pub record WritesBytes (old new : SeenSink) (result : Result (Unit {0}) ColumnarError)
    (bytes : List ℕ) : Type 0 where
  pub ok : OnOk result (Appends old new bytes)
  pub cut_short : result ≡ Err WriteFault → AppendsPrefix old new bytes × Faulted old new
  pub memory : result ≡ Err OutOfMemory → AppendsNothing old new
  pub causes : IfErr result (λ e. (e ≡ OutOfMemory) ⊎ (e ≡ WriteFault))
  pub later : old.faults ≤ new.faults

-- After a compaction the file of its table is written, or not; without one the sink stays.
abbrev pub WritesCompacted : List HeldTable → SeenSink → SeenSink → Result (Unit {0}) ColumnarError
    → Result (Unit {0}) ColumnarError → Type 0
WritesCompacted hs a b (Ok done) result = (t : Table) × (file : List ℕ)
    × (merged_alive hs ≡ Ok t) × StandsFor t file × WritesBytes a b result file
WritesCompacted hs a b (Err e) result = (result ≡ Err e) × (b ≡ a)

-- What writing a set answers and leaves: it is compacted, and then its file is written.
pub record WritesSet {D : Type 0} (see : D → SeenDisk) (old new : SeenSet D) (a b : SeenSink)
    (result : Result (Unit {0}) ColumnarError) : Type 0 where
  pub compaction : Result (Unit {0}) ColumnarError
  pub changes : ChangesSet see old new compaction (compacted old.held)
  pub live : OnOk compaction (live new.held ≡ live old.held)
  pub known : IfErr compaction IsCompactAnswer
  pub written : WritesCompacted old.held a b compaction result

-- ---- opening

-- the disk, handed over or handed back
abbrev pub disk_of : {D : Type 0} → Result (SeenSet D) (D × ColumnarError) → D
disk_of (Ok set) = set.disk
disk_of (Err p) = p.0

-- the bytes stand for the tables that these do
abbrev pub IsHeldAlike : List ℕ → List ℕ → Type 0
IsHeldAlike bytes c =
    (hs : List HeldTable) × (held_by bytes ≡ Some hs) × (held_by c ≡ Some hs)

-- Why a disk isn't opened: InvalidData says that its bytes stand for no tables, a fault that the
-- count rose, and want of memory nothing; no other refusal comes.
abbrev pub RefusesOpen : Type 0 → Type 0 → ColumnarError → Type 0
RefusesOpen none rose OutOfMemory = Unit {0}
RefusesOpen none rose InvalidData = none
RefusesOpen none rose ReadFault = rose
RefusesOpen none rose WriteFault = rose
RefusesOpen none rose _ = ⊥

-- a place on the disk where a gate may stand
abbrev pub IsGatePlace : SeenDisk → ℕ → Type 0
IsGatePlace disk gate = (gate + 1 < 2 ^ 64) × (gate < disk.size)

-- What opening a disk answers, and what it leaves.
pub record OpensSet {D : Type 0} (see : D → SeenDisk) (disk : D)
    (result : Result (SeenSet D) (D × ColumnarError)) : Type 0 where
  pub ok : IfOk result (λ set. (set.failed ≡ false) × IfSome (see disk).told (λ bytes.
      (held_by bytes ≡ Some set.held) × EachStands (see set.disk).images set.held))
  pub refused : IfErr result (λ p. RefusesOpen
      (IfSome (see disk).told (λ bytes. held_by bytes ≡ None))
      (Rose (see disk).faults (see p.0).faults) p.1)
  pub later : (see disk).faults ≤ (see (disk_of result)).faults
  pub tells : TellsAlike (see disk).told (see (disk_of result)).told
  -- each image since the start was one then, or stands for the tables that the disk's bytes do
  pub any_moment : IfSome (see disk).told (λ bytes.
      LeavesOnly (see disk).images (see (disk_of result)).images
      (λ c. (see disk).images.may_leave c ⊎ IsHeldAlike bytes c))
