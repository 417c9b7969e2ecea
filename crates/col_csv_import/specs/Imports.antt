-- What reading a CSV text into a file leaves. States docs/RULES.md, Tables as CSV.
use Rattle.std.specs.Prelude.{◌≡◌, ◌≢◌, ◌≤◌, ◌+◌, ℕ, List, length, nat_lt, if◌then◌else◌, Option, Some, None, Result, Ok, Err, IsOk, IsErr}
use Rattle.col_common.specs.Outside.{Told, SeenSink, Appends, Faulted, Grows, IsAtEnd, TakesAtMost}
use Rattle.col_csv.specs.CsvTable.{table_of_csv}
use Rattle.col_csv.specs.declared.csv_error.CsvError.{CsvError}
use Rattle.col_csv.specs.declared.csv_error.CsvError.TheVariants.{OutOfMemory, ReadFault, WriteFault, LongCsv, BadCsv}
use Rattle.col_model.specs.File.{StandsFor}
use Rattle.col_model.specs.Table.{Table}
use Rattle.col_program.specs.Outcome.{max_script_length}

-- ---- what is expected

-- the table, or BadCsv where there is none
abbrev pub table_or_bad : Option Table → Result Table CsvError
table_or_bad (Some t) = Ok t
table_or_bad None = Err BadCsv

-- the table of a text that isn't too long, or a refusal
abbrev pub outcome_of_text : List ℕ → Result Table CsvError
outcome_of_text bytes =
    if nat_lt max_script_length (length bytes) then Err LongCsv
    else table_or_bad (table_of_csv bytes)

-- ---- what is left in the sink

-- A file of the current version was added, which stands for the table that is expected.
pub record AddsTable (a b : SeenSink) (expected : Result Table CsvError) : Type 0 where
  pub table : Table
  pub is : expected ≡ Ok table
  pub file : List ℕ
  pub stands : StandsFor table file
  pub added : Appends a b file

-- the refusal is the one that is expected, and nothing was added
abbrev pub AddsNothing : SeenSink → SeenSink → CsvError → Result Table CsvError → Type 0
AddsNothing a b e expected = (expected ≡ Err e) × (b ≡ a)

-- Ok added the table that is expected. A refusal is the one that is expected, or want of memory, or
-- a read or a write that failed; where no table is expected, or a read failed, nothing was added.
abbrev pub Imports : Type 0 → SeenSink → SeenSink → Result (Unit {0}) CsvError
    → Result Table CsvError → Type 0
Imports ReadFailed a b (Ok done) expected = AddsTable a b expected
Imports ReadFailed a b (Err OutOfMemory) expected = IsErr expected → b ≡ a
Imports ReadFailed a b (Err ReadFault) expected = ReadFailed × (b ≡ a)
Imports ReadFailed a b (Err WriteFault) expected = IsOk expected × Faulted a b
Imports ReadFailed a b (Err e) expected = AddsNothing a b e expected

-- A refusal that may come, whatever the text: with its cause, and with nothing added but where
-- memory was wanting or a write failed.
abbrev pub MayRefuse : Type 0 → SeenSink → SeenSink → CsvError → Type 0
MayRefuse ReadFailed a b OutOfMemory = Unit {0}
MayRefuse ReadFailed a b ReadFault = ReadFailed × (b ≡ a)
MayRefuse ReadFailed a b WriteFault = Faulted a b
MayRefuse ReadFailed a b LongCsv = b ≡ a
MayRefuse ReadFailed a b BadCsv = b ≡ a
MayRefuse ReadFailed a b _ = ⊥

-- what the sink held stays in front, and its count of faults never falls
pub record KeepsFront (a b : SeenSink) : Type 0 where
  pub grown : Grows a b
  pub later : a.faults ≤ b.faults

-- ---- what is taken of the source

-- At most one byte more than the longest text was taken, and all of them but where memory was
-- wanting, a read failed or the text is too long; the count of faults never falls.
pub record ReadsText (left left' : Told) (faults faults' : ℕ)
    (result : Result (Unit {0}) CsvError) : Type 0 where
  pub later : faults ≤ faults'
  pub most : TakesAtMost (max_script_length + 1) left left'
  pub ended : result ≢ Err OutOfMemory → result ≢ Err ReadFault → result ≢ Err LongCsv
      → IsAtEnd left'
