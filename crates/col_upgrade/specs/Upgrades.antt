-- What writing a file again leaves. States docs/RULES.md, Upgraded files.
use Rattle.std.specs.Prelude.{◌≡◌, ℕ, true, List, map, Option, Some, None, Result, Ok, Err, IfSome}
use Rattle.std.specs.List.{AllByRecursion}
use Rattle.col_common.specs.Causes.{Rose}
use Rattle.col_common.specs.Outside.{SeenFile, SeenSink, Appends, Faulted}
use Rattle.col_common.specs.declared.error.ColumnarError.{ColumnarError}
use Rattle.col_common.specs.declared.error.ColumnarError.TheVariants.{OutOfMemory, ReadFault, WriteFault, InvalidData}
use Rattle.col_model.specs.File.{table_of, part_column, StandsFor}
use Rattle.col_model.specs.Keys.{Entry, FileKeys, Key}
use Rattle.col_model.specs.Table.{Table}
use Rattle.col_keys.specs.Put.{PutColumns, Puts, HavePut, part_put}
use Rattle.col_file.specs.Checks.{is_column}
use Rattle.col_file.specs.Columns.{content_at}
use Rattle.col_file.specs.Files.{IsExpected}
use Rattle.col_file.specs.Handles.{Handle}
use Rattle.col_file.specs.Readers.{SeenReader}
use Rattle.col_upgrade.specs.Again.{StandsForContent}

-- Why a file, or a column, isn't written again: want of memory, the count of faults of the file or
-- of the sink, or bytes that stand for nothing.
abbrev pub RefusesAgain : {V : Type 0} → SeenFile → SeenFile → SeenSink → SeenSink →
    ColumnarError → (List ℕ → Option V) → Type 0
RefusesAgain old new a b OutOfMemory expected = Unit {0}
RefusesAgain old new a b ReadFault expected = Rose old.faults new.faults
RefusesAgain old new a b WriteFault expected = Faulted a b
RefusesAgain old new a b InvalidData expected = IfSome old.told (λ bytes. expected bytes ≡ None)
RefusesAgain old new a b _ expected = ⊥

-- A file of the current version was added that stands for the table that is expected.
pub record AddsTable (a b : SeenSink) (expected : Option Table) : Type 0 where
  pub table : Table
  pub is : expected ≡ Some table
  pub file : List ℕ
  pub added : Appends a b file
  pub stands : StandsFor table file

-- Ok added a file of the table that the bytes stand for, where the file tells these; a refusal has
-- a cause.
abbrev pub UpgradesFile : SeenFile → SeenFile → SeenSink → SeenSink →
    Result (Unit {0}) ColumnarError → Type 0
UpgradesFile old new a b (Ok done) = IfSome old.told (λ bytes. AddsTable a b (table_of bytes))
UpgradesFile old new a b (Err e) = RefusesAgain old new a b e table_of

-- ---- one column

-- A column was put under a name and the type of a handle, which stands for what the handle's bytes
-- stand for.
pub record PutAgain (r : SeenReader) (old new : PutColumns) (a b : SeenSink) (name : List ℕ)
    (h : Handle) : Type 0 where
  pub bytes : List ℕ
  pub put : Puts old new a b (Ok tt) (record { name = name; column_type = h.column_type }) bytes
  pub told : IfSome r.file.told (λ all. IsExpected
      (StandsForContent h.column_type r.keys.row_count) bytes (content_at r.keys h all))

-- the same, or why not
abbrev pub PutsAgain : SeenReader → SeenReader → PutColumns → PutColumns → SeenSink → SeenSink →
    Result (Unit {0}) ColumnarError → List ℕ → Handle → Type 0
PutsAgain olds news old new a b (Ok done) name h = PutAgain olds old new a b name h
PutsAgain olds news old new a b (Err e) name h =
    RefusesAgain olds.file news.file a b e (content_at olds.keys h)

-- ---- all columns

-- What was put are the columns of these entries, each of which stands for something.
pub record AreAgain (bytes : List ℕ) (k : FileKeys) (es : List Entry) (ps : List (Key × List ℕ))
    : Type 0 where
  pub same : map (part_put k.row_count) ps ≡ map (part_column bytes k) es
  pub whole : AllByRecursion (λ e. is_column bytes k e ≡ true) es

-- The columns of these entries were put since the start.
pub record PutSoFar (r : SeenReader) (start now : SeenSink) (columns : PutColumns)
    (es : List Entry) : Type 0 where
  pub ps : List (Key × List ℕ)
  pub put : HavePut start now columns ps
  pub told : IfSome r.file.told (λ bytes. AreAgain bytes r.keys es ps)

-- all columns were put, or why not
abbrev pub PutsAll : SeenReader → SeenReader → PutColumns → SeenSink → SeenSink →
    Result (Unit {0}) ColumnarError → Type 0
PutsAll old new columns a b (Ok done) = PutSoFar old a b columns old.keys.entries
PutsAll old new columns a b (Err e) = RefusesAgain old.file new.file a b e table_of
