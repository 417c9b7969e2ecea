-- Files in memory, and the tables that they stand for.
use Rattle.std.specs.Prelude.{◌≡◌, ◌⊎◌, ◌<◌, ◌^◌, ℕ, List, [], map, unwrap_or, Some, None, Result, Ok, Err}
use Rattle.std.specs.List.{AllZip}
use Rattle.col_common.specs.declared.error.ColumnarError.{ColumnarError}
use Rattle.col_common.specs.declared.error.ColumnarError.TheVariants.{OutOfMemory, InvalidData}
use Rattle.col_file.specs.Readers.{SeenReader}
use Rattle.col_merge.specs.Parts.{told_part}
use Rattle.col_model.specs.File.{part_of_table, table_of}
use Rattle.col_model.specs.Keys.{keys}
use Rattle.col_model.specs.Table.{Table}
use Rattle.col_places.specs.Places.{AliveRows}
use Rattle.col_segments.specs.Live.{with_alive}
use Rattle.col_segments.specs.Segments.{HeldTable, alive_count}

-- a table without rows and columns
abbrev pub no_table : Table
no_table = record { row_count = 0; columns = [] }

-- the table that bytes stand for, where they stand for one
unfoldable pub table_in : List ℕ → Table
table_in bytes = unwrap_or (table_of bytes) no_table

-- the bytes stand for a table
abbrev pub IsTableFile : List ℕ → Type 0
IsTableFile bytes = table_of bytes ≡ Some (table_in bytes)

-- The bytes stand for a table, of whose rows some are alive.
pub record IsWhole (bytes : List ℕ) (alive : AliveRows) : Type 0 where
  pub table : IsTableFile bytes
  pub count : alive.count ≡ (table_in bytes).row_count

-- an open file of a table
pub record ReadsTable (t : Table) (r : SeenReader) : Type 0 where
  pub part : told_part r ≡ Some (part_of_table t)
  pub rows : r.keys.row_count ≡ t.row_count

-- The rows alive are few enough to be counted by 32 bits, and the files are open whose tables have
-- some.
pub record AreOpenBeside (hs : List HeldTable) (rs : List SeenReader) : Type 0 where
  pub few : alive_count hs < 2 ^ 32
  pub open_ : AllZip ReadsTable (map (λ h. h.table) (with_alive hs)) rs

-- The bytes are the file of the reader, or no file.
abbrev pub OpensBytes : List ℕ → Result SeenReader ColumnarError → Type 0
OpensBytes bytes (Ok r) = (r.file.told ≡ Some bytes) × (keys bytes ≡ Some r.keys)
OpensBytes bytes (Err e) = (e ≡ OutOfMemory) ⊎ ((e ≡ InvalidData) × (keys bytes ≡ None))
