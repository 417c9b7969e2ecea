-- What a disk in memory keeps of its past, and what a crash may have left at each of its moments.
use Rattle.std.specs.Prelude.{◌≡◌, ◌<◌, ◌≤◌, ℕ, ◌+◌, ◌&&◌, nat_le, nat_lt, Bool, false, List, [], ◌∷◌, length, take, get_or, Some}
use Rattle.std.specs.List.{list_any}
use Rattle.col_disk.specs.declared.history.Entry.{Entry}
use Rattle.col_disk.specs.declared.history.Entry.TheVariants.{Wrote, Synced}
use Rattle.col_disk.specs.declared.history.Write.{Write}
use Rattle.col_disk.specs.Crash.{Images, overwritten}
use Rattle.col_disk.specs.Disks.{SeenDisk}

-- the bytes at the last sync, the ranges that were written since, each with its start and length,
-- and the bytes now
pub record State : Type 0 where
  pub base : List ℕ
  pub ranges : List (ℕ × ℕ)
  pub bytes : List ℕ

-- a write of these bytes at a place, or of a part of them, and the bytes that it leaves of old ones
pub record IsMadeWrite (at : ℕ) (asked old : List ℕ) (w : Write) (new : List ℕ) : Type 0 where
  pub pos : w.pos ≡ at
  pub size : w.size ≡ length asked
  pub fits : length w.bytes.items ≤ w.size
  pub new_is : new ≡ overwritten w.pos w.bytes.items old

-- the state after a write or a sync
abbrev pub state_after : State → Entry → State
state_after s (Wrote w) = record {
  base = s.base;
  ranges = (w.pos, w.size) ∷ s.ranges;
  bytes = overwritten w.pos w.bytes.items s.bytes;
}
state_after s Synced = record { base = s.bytes; ranges = []; bytes = s.bytes }

-- the state after several, in order
unfoldable pub state_after_all : State → List Entry → State
state_after_all s [] = s
state_after_all s (entry ∷ entries) = state_after_all (state_after s entry) entries

-- all of these bytes are on the disk
abbrev pub all_synced : List ℕ → State
all_synced bytes = record { base = bytes; ranges = []; bytes = bytes }

-- the state after the entries, from these bytes on
abbrev pub state_of : List ℕ → List Entry → State
state_of first entries = state_after_all (all_synced first) entries

-- a write since the last sync had this place in its range
abbrev pub is_written : List (ℕ × ℕ) → ℕ → Bool
is_written ranges i = list_any (λ r. nat_le r.0 i && nat_lt i (r.0 + r.1)) ranges

-- What a crash may leave in a state: any bytes in the ranges and past the old end, the others as
-- they were, and an end anywhere from the old one to the new.
pub record IsLeftIn (s : State) (c : List ℕ) : Type 0 where
  pub no_shorter : length s.base ≤ length c
  pub no_longer : length c ≤ length s.bytes
  pub others : (i : ℕ) → i < length s.base → is_written s.ranges i ≡ false
      → get_or c i 0 ≡ get_or s.base i 0

-- a crash may have left it at some moment since t; each entry is a moment
abbrev pub WasLeftSince : List ℕ → List Entry → ℕ → List ℕ → Type 0
WasLeftSince first entries t c =
    (k : ℕ) × (t ≤ k) × (k ≤ length entries) × IsLeftIn (state_of first (take k entries)) c

-- what a crash may leave and may have left
abbrev pub images_after : List ℕ → List Entry → Images
images_after first entries = record {
  may_leave = IsLeftIn (state_of first entries);
  clock = length entries;
  left_since = WasLeftSince first entries;
}

-- what a disk in memory tells, whose bytes these are now
abbrev pub told_by_history : List ℕ → List Entry → List ℕ → ℕ → SeenDisk
told_by_history first entries bytes faults = record {
  told = Some bytes;
  size = length bytes;
  images = images_after first entries;
  faults = faults;
}

-- nothing is pending
pub record IsClean (s : State) : Type 0 where
  pub ranges : s.ranges ≡ []
  pub base : s.base ≡ s.bytes

-- what is kept gives the bytes that are there, and whether a write is pending
pub record IsHistory (first : List ℕ) (entries : List Entry) (bytes : List ℕ)
    (pending : Bool) : Type 0 where
  pub replayed : (state_of first entries).bytes ≡ bytes
  pub image : IsLeftIn (state_of first entries) bytes
  pub clean : pending ≡ false → IsClean (state_of first entries)
