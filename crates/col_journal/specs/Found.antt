-- What a step of a reading finds.
use Rattle.std.specs.Prelude.{◌≡◌, ◌≤◌, ◌⊎◌, ℕ, List, [], ◌∷◌, ◌++◌, Option, Some, None, Result, Err, IfErr}
use Rattle.col_common.specs.Causes.{Rose}
use Rattle.col_common.specs.declared.error.ColumnarError.{ColumnarError}
use Rattle.col_common.specs.declared.error.ColumnarError.TheVariants.{OutOfMemory, ReadFault, InvalidData}
use Rattle.col_disk.specs.Disks.{SeenDisk, Stays}
use Rattle.col_journal.specs.declared.found.Found.{Found}
use Rattle.col_journal.specs.Journal.{Change}
use Rattle.col_journal.specs.Settled.{IsReadTo, IsSettled}

-- a change that was read, as its definition has it
abbrev pub change_of : Found → Change
change_of found = record { kind = found.kind; bytes = found.bytes }

-- one change more, before the next gate; or the end, at this gate
abbrev pub FindsChange : SeenDisk → ℕ → List Change → Option (List Change) → Option (Found × ℕ)
    → Type 0
FindsChange disk gate changes all (Some found) =
    IsReadTo disk found.1 (changes ++ change_of found.0 ∷ []) all
FindsChange disk gate changes all None = IsSettled disk gate changes × (all ≡ Some changes)

-- want of memory, a read that failed, or bytes that stand for nothing
abbrev pub IsReadRefusal : ColumnarError → Type 0
IsReadRefusal e = (e ≡ OutOfMemory) ⊎ ((e ≡ ReadFault) ⊎ (e ≡ InvalidData))

-- A call that reads a disk writes nothing; it answers ReadFault only where the disk's count of
-- faults rose, and no refusal that isn't one of a reading.
pub record ReadsAlone {T : Type 0} (old new : SeenDisk)
    (result : Result T ColumnarError) : Type 0 where
  pub stays : Stays old new
  pub later : old.faults ≤ new.faults
  pub read_fault : result ≡ Err ReadFault → Rose old.faults new.faults
  pub known : IfErr result IsReadRefusal
