-- One input written as CSV, and a CSV text written as a file, each with a report. States
-- docs/RULES.md, Tables as CSV.
use Rattle.std.specs.Prelude.{◌≡◌, ◌≤◌, ◌+◌, ℕ, true, false, List, [], ◌∷◌, length, Option, Some}
use Rattle.std.specs.Prelude.{None, Result, Ok, Err, IfSome}
use Rattle.std.specs.declared.alloc.Global.{Global}
use Rattle.std.specs.declared.vec.Vec.{Vec}
use Rattle.col_common.specs.Causes.{Rose}
use Rattle.col_common.specs.Outside.{SeenFile}
use Rattle.col_csv.specs.Csv.{csv_of, has_multivalued}
use Rattle.col_csv.specs.declared.csv_error.CsvError.{CsvError}
use Rattle.col_csv.specs.declared.csv_error.CsvError.TheVariants.{OutOfMemory, ReadFault}
use Rattle.col_csv.specs.declared.csv_error.CsvError.TheVariants.{InvalidData, NotFlat, BadCsv}
use Rattle.col_exchange.specs.declared.exporting.Exchanged.{Exchanged}
use Rattle.col_file.specs.Files.{IsExpected, ReadsFile}
use Rattle.col_model.specs.File.{Part, StandsFor, parts_of, table_of}
use Rattle.col_model.specs.Table.{Table}
use Rattle.col_program.specs.Report.{report_of}

-- the short report on a table, without lookups
abbrev pub IsShortReport : Table → List ℕ → Type 0
IsShortReport t report = report ≡ report_of t [] true

-- ---- one input as a text

-- the text of a table, of which no column is Multivalued
abbrev pub IsText : Table → List ℕ → Type 0
IsText t bytes = (has_multivalued t ≡ false) × (bytes ≡ csv_of t)

-- the same, and the report
abbrev pub IsExport : Table → Exchanged → Type 0
IsExport t made = IsText t made.bytes × IsShortReport t made.report

-- there is a table, and some column of it is Multivalued
abbrev pub IsMany : Option Table → Type 0
IsMany None = ⊥
IsMany (Some t) = has_multivalued t ≡ true

-- Why a file has no text: want of memory, the count of faults of the file, bytes that stand for no
-- table, or a Multivalued column.
abbrev pub RefusesWithText : SeenFile → SeenFile → CsvError → Type 0
RefusesWithText old new OutOfMemory = Unit {0}
RefusesWithText old new ReadFault = Rose old.faults new.faults
RefusesWithText old new InvalidData = IfSome old.told (λ bytes. table_of bytes ≡ None)
RefusesWithText old new NotFlat = IfSome old.told (λ bytes. IsMany (table_of bytes))
RefusesWithText old new _ = ⊥

-- What was made is of the table that the file stands for, where the file tells its bytes; a refusal
-- has a cause.
abbrev pub AnswersWithText : {T : Type 0} → (Table → T → Type 0) → SeenFile → SeenFile →
    Result T CsvError → Type 0
AnswersWithText IsOf old new (Ok made) =
    IfSome old.told (λ bytes. IsExpected IsOf made (table_of bytes))
AnswersWithText IsOf old new (Err e) = RefusesWithText old new e

-- how many reads an export takes at most: two find the file's end, and each entry is read for the
-- text, and for the report
abbrev pub export_reads : Option Part → ℕ
export_reads None = 2
export_reads (Some p) = 2 + (length p.columns + length p.columns)

-- a file was read no more often than an export takes
abbrev pub IsReadTwice : SeenFile → SeenFile → Type 0
IsReadTwice old new =
    IfSome old.told (λ bytes. new.reads ≤ old.reads + export_reads (parts_of bytes))

-- What was made is the text of the file's table and the report on it; the file stays but for its
-- counts, and is read so often.
pub record ExportsOne (old new : SeenFile) (result : Result Exchanged CsvError) : Type 0 where
  pub answer : AnswersWithText IsExport old new result
  pub kept : (times : ℕ) × ReadsFile times old new
  pub reads : IsReadTwice old new

-- The same of inputs of which there is one.
pub record ExportsInput (olds news : List SeenFile) (result : Result Exchanged CsvError)
    : Type 0 where
  pub old : SeenFile
  pub new : SeenFile
  pub before : olds ≡ old ∷ []
  pub behind : news ≡ new ∷ []
  pub exports : ExportsOne old new result

-- ---- a text as a file

-- a file of a table, and the report
abbrev pub IsImport : Table → Exchanged → Type 0
IsImport t made = StandsFor t made.bytes × IsShortReport t made.report

-- why a text has no file: want of memory, or that it has no table
abbrev pub RefusesForText : CsvError → Option Table → Type 0
RefusesForText OutOfMemory expected = Unit {0}
RefusesForText BadCsv expected = expected ≡ None
RefusesForText _ expected = ⊥

-- What was made is of the table that is expected; a refusal has a cause.
abbrev pub AnswersForText : {T : Type 0} → (Table → T → Type 0) → Result T CsvError →
    Option Table → Type 0
AnswersForText IsOf (Ok made) expected = IsExpected IsOf made expected
AnswersForText IsOf (Err e) expected = RefusesForText e expected
