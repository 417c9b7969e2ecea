-- The tables that the bytes of a disk stand for. States docs/RULES.md, Sets of segments.
use Rattle.std.specs.Prelude.{◌≡◌, ℕ, List, [], Option, Some, None, Result, Ok, Err}
use Rattle.col_disk.specs.Disks.{SeenDisk}
use Rattle.col_journal.specs.Journal.{Change, replayed, state_held}
use Rattle.col_journal.specs.Settled.{IsSettled}
use Rattle.col_model.specs.Refusal.{Refusal}
use Rattle.col_segments.specs.Segments.{HeldTable, changed}

-- the tables, where nothing refused
abbrev pub made_by : Result (List HeldTable) Refusal → Option (List HeldTable)
made_by (Ok hs) = Some hs
made_by (Err refusal) = None

-- what a change of a journal makes of tables, or none
abbrev pub step : Change → List HeldTable → Option (List HeldTable)
step change hs = made_by (changed change.kind change.bytes hs)

-- The tables that a disk's bytes stand for, or none.
abbrev pub held_by : List ℕ → Option (List HeldTable)
held_by bytes = state_held step [] bytes

-- the disk tells its bytes, the journal ends at the gate in each image, and its changes make these
-- tables
pub record Stands (disk : SeenDisk) (gate : ℕ) (hs : List HeldTable) : Type 0 where
  pub changes : List Change
  pub settled : IsSettled disk gate changes
  pub made : replayed step [] changes ≡ Some hs
