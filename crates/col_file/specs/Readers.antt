-- Open files.
use Rattle.std.specs.Prelude.{◌≡◌, ◌≤◌, ℕ, Some, Result, Ok, Err, IfSome}
use Rattle.std.specs.List.{AllByRecursion}
use Rattle.col_common.specs.declared.error.ColumnarError.{ColumnarError}
use Rattle.col_model.specs.Keys.{Entry, FileKeys, keys}
use Rattle.col_common.specs.Outside.{SeenFile}
use Rattle.col_file.specs.Files.{ReadsFile, RefusesFile}

-- the file, and what its end says
pub record SeenReader : Type 0 where
  pub file : SeenFile
  pub keys : FileKeys

-- the bytes of an entry are among the first so many
abbrev pub IsWithin : ℕ → Entry → Type 0
IsWithin size e = (e.start ≤ e.«end») × (e.«end» ≤ size)

-- The file, where it tells its bytes, ends as the reader says, and has the bytes of each entry.
pub record IsRead (r : SeenReader) : Type 0 where
  pub told : IfSome r.file.told (λ bytes. keys bytes ≡ Some r.keys)
  pub within : AllByRecursion (IsWithin r.file.size) r.keys.entries

-- a reader's file was read at most so often, and all else stays
pub record Reads (times : ℕ) (old new : SeenReader) : Type 0 where
  pub file : ReadsFile times old.file new.file
  pub keys : new.keys ≡ old.keys

-- A file was opened where it ends as the definition has it, or is handed back with the refusal.
abbrev pub Opens : {F : Type 0} → (F → SeenFile) → SeenFile →
    Result SeenReader (F × ColumnarError) → Type 0
Opens seen old (Ok r) =
    IfSome old.told (λ bytes. keys bytes ≡ Some r.keys) × ReadsFile 2 old r.file
Opens seen old (Err p) = RefusesFile old (seen p.0) p.1 keys × ReadsFile 2 old (seen p.0)
