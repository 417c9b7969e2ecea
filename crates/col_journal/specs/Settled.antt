-- Where a journal ends, in each image of its disk.
use Rattle.std.specs.Prelude.{◌≡◌, ◌≢◌, ◌<◌, ℕ, ◌+◌, List, [], ◌∷◌, ◌++◌, length, take, drop, get_or, Option, Some, Err, OnOk}
use Rattle.col_common.specs.declared.outside.HandleError.TheVariants.{Memory}
use Rattle.col_disk.specs.Crash.{LeavesOnly, Only}
use Rattle.col_disk.specs.Disks.{Answer, SeenDisk}
use Rattle.col_journal.specs.Journal.{Change, AreChanges, IsBeforeOrAfter, change_bytes, changes_from}

-- the changes, and behind them a gate that isn't open
pub record IsShutAt (gate : ℕ) (changes : List Change) (bytes : List ℕ) : Type 0 where
  pub inside : gate < length bytes
  pub shut : get_or bytes gate 0 ≢ 1
  pub front : AreChanges (take gate bytes) changes

-- what is written behind a gate: a change and a closed gate
abbrev pub behind_gate : Change → List ℕ
behind_gate change = change_bytes change ++ 0 ∷ []

-- the journal ends at the gate, behind which a change and a closed gate stand
pub record IsStaged (gate : ℕ) (changes : List Change) (change : Change)
    (bytes : List ℕ) : Type 0 where
  pub ends : IsShutAt gate changes bytes
  pub tail : List ℕ
  pub behind : drop (gate + 1) bytes ≡ behind_gate change ++ tail

-- the disk tells its bytes, and in each image the journal has these changes and ends there
pub record IsSettled (disk : SeenDisk) (gate : ℕ) (changes : List Change) : Type 0 where
  pub bytes : List ℕ
  pub told : disk.told ≡ Some bytes
  pub each : (c : List ℕ) → disk.images.may_leave c → IsShutAt gate changes c

-- A journal that is being read: those of all its changes that stand before a gate; none are all of
-- them where it is cut short. The disk has one image.
pub record IsReadTo (disk : SeenDisk) (gate : ℕ) (changes : List Change)
    (all : Option (List Change)) : Type 0 where
  pub bytes : List ℕ
  pub told : disk.told ≡ Some bytes
  pub only : Only bytes disk.images
  pub inside : gate < length bytes
  pub front : AreChanges (take gate bytes) changes
  pub whole : changes_from bytes ≡ all

-- What adding a change to these changes answers and leaves, with the gate where the journal ends
-- then.
pub record AddsChange (old new : SeenDisk) (gate : ℕ) (changes : List Change) (change : Change)
    (result : Answer) : Type 0 where
  pub ok : OnOk result (IsSettled new gate (changes ++ change ∷ []))
  -- a crash at any moment leaves the changes from before the call, with the new one or without
  pub any_moment : LeavesOnly old.images new.images (IsBeforeOrAfter changes change)
  -- want of memory leaves the changes, and the journal may go on
  pub memory : result ≡ Err Memory → IsSettled new gate changes
