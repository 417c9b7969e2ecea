-- What contracts see of a disk, and what its calls answer and leave.
use Rattle.std.specs.Prelude.{◌≡◌, ◌<◌, ◌≤◌, ℕ, ◌+◌, ◌-◌, ◌^◌, List, length, slice_range, option_map, is_some, Some, None, Result, Ok, Err, IfSome, IfOk, OnOk, IsOkUnless}
use Rattle.col_common.specs.Causes.{HasCause}
use Rattle.col_common.specs.Outside.{Told}
use Rattle.col_common.specs.declared.outside.HandleError.{HandleError}
use Rattle.col_common.specs.declared.outside.HandleError.TheVariants.{Failed, Memory}
use Rattle.col_disk.specs.Crash.{Images, AddsNone, LeavesOnly, MayBeTorn, Only, Tears, Torn, anything, overwritten}

-- what a call answers that writes
abbrev pub Answer : Type 0
Answer = Result (Unit {0}) HandleError

-- its bytes, where it tells them, their number, what a crash may leave of them, and how often it
-- has failed
pub record SeenDisk : Type 1 where
  pub told : Told
  pub size : ℕ
  pub images : Images
  pub faults : ℕ

-- a disk of so many bytes that tells none of them, and has failed so often
abbrev pub untold_disk : ℕ → ℕ → SeenDisk
untold_disk size faults = record {
  told = None;
  size = size;
  images = anything;
  faults = faults;
}

-- what holds of every disk
pub record IsDisk (disk : SeenDisk) : Type 0 where
  -- what is told is as long as the disk
  pub told_whole : IfSome disk.told (λ bytes. length bytes ≡ disk.size)
  -- what a read gives is one of the images
  pub read_is_left : IfSome disk.told disk.images.may_leave
  -- this moment is one of those since an earlier one
  pub counts_now : (t : ℕ) (c : List ℕ) → t ≤ disk.images.clock → disk.images.may_leave c
      → disk.images.left_since t c
  -- since this moment there is no other
  pub only_now : (c : List ℕ) → disk.images.left_since disk.images.clock c
      → disk.images.may_leave c

-- nothing was written
pub record Stays (old new : SeenDisk) : Type 0 where
  pub told : new.told ≡ old.told
  pub size : new.size ≡ old.size
  pub images : AddsNone old.images new.images

-- whether a disk tells its bytes stays
abbrev pub TellsAlike : Told → Told → Type 0
TellsAlike old new = is_some new ≡ is_some old

-- Whatever a call that writes answers: the disk tells its bytes or doesn't, as before, is no
-- shorter, and answers Failed only where its count rose.
pub record IsLater (old new : SeenDisk) (result : Answer) : Type 0 where
  pub tells : TellsAlike old.told new.told
  pub grows : old.size ≤ new.size
  pub cause : HasCause old.faults new.faults result

-- A read gives the bytes from start to end, where the disk tells them, and as many where it
-- doesn't.
pub record ReadsPart (old new : SeenDisk) (start «end» : ℕ)
    (result : Result (List ℕ) HandleError) : Type 0 where
  pub bytes : IfOk result (λ part. IfSome old.told (λ bytes. part ≡ slice_range bytes start «end»))
  pub count : IfOk result (λ part. length part ≡ «end» - start)
  pub stays : Stays old new
  pub cause : HasCause old.faults new.faults result

-- the bytes stand in their place; a crash leaves any part of them
pub record IsWritten (old new : SeenDisk) (at : ℕ) (bytes : List ℕ) : Type 0 where
  pub told : new.told ≡ option_map (overwritten at bytes) old.told
  pub images : Tears at (length bytes) old.images new.images
  pub reaches : at + length bytes ≤ new.size
  pub fits : at + length bytes < 2 ^ 64

-- what is told was torn
abbrev pub TornAsTold : ℕ → ℕ → Told → Told → Type 0
TornAsTold at n None new = new ≡ None
TornAsTold at n (Some old) new = (held : List ℕ) × (new ≡ Some held) × Torn at n old held

-- n bytes were torn, in what is told and in what a crash leaves
pub record IsTorn (old new : SeenDisk) (at n : ℕ) : Type 0 where
  pub told : TornAsTold at n old.told new.told
  pub images : Tears at n old.images new.images

-- what a write leaves: the bytes; after a fault a part of them; for want of memory nothing new
abbrev pub WriteLeaves : SeenDisk → SeenDisk → ℕ → List ℕ → Answer → Type 0
WriteLeaves old new at bytes (Ok done) = IsWritten old new at bytes
WriteLeaves old new at bytes (Err Failed) = IsTorn old new at (length bytes)
WriteLeaves old new at bytes (Err Memory) = Stays old new

-- what a write answers and leaves
pub record WritesAt (old new : SeenDisk) (at : ℕ) (bytes : List ℕ)
    (result : Answer) : Type 0 where
  pub leaves : WriteLeaves old new at bytes result
  pub grows : old.size ≤ new.size
  pub cause : HasCause old.faults new.faults result

-- After a sync a crash leaves just what a read gives. It changes no byte that is read.
pub record Syncs (old new : SeenDisk) (result : Answer) : Type 0 where
  pub durable : OnOk result (IfSome old.told (λ bytes. Only bytes new.images))
  pub stays : Stays old new
  pub failed : IsOkUnless result Failed
  pub cause : HasCause old.faults new.faults result

-- What several writes answer and leave that put these bytes in their place, a part behind another:
-- a crash at any moment leaves what it could leave before, torn.
pub record WritesParts (old new : SeenDisk) (at : ℕ) (bytes : List ℕ)
    (result : Answer) : Type 0 where
  pub told : OnOk result (new.told ≡ option_map (overwritten at bytes) old.told)
  pub any_moment : LeavesOnly old.images new.images (MayBeTorn old.images at (length bytes))
  pub reaches : OnOk result (at + length bytes ≤ new.size)
  pub fits : OnOk result (at + length bytes < 2 ^ 64)
  pub later : IsLater old new result

-- the bytes are on the disk, and nothing else
pub record IsDurable (disk : SeenDisk) (bytes : List ℕ) : Type 0 where
  pub told : disk.told ≡ Some bytes
  pub only : Only bytes disk.images
