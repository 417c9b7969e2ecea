-- What writing a file's table as CSV leaves. States docs/RULES.md, Tables as CSV.
use Rattle.std.specs.Prelude.{◌≡◌, ℕ, true, false, List, Option, Some, None, Result, Ok, Err}
use Rattle.std.specs.Prelude.{IfSome}
use Rattle.col_common.specs.Causes.{Rose}
use Rattle.col_common.specs.Outside.{SeenFile, SeenSink, Appends, Faulted}
use Rattle.col_model.specs.File.{table_of}
use Rattle.col_model.specs.Table.{Table}
use Rattle.col_csv.specs.Csv.{csv_of, has_multivalued}
use Rattle.col_csv.specs.declared.csv_error.CsvError.{CsvError}
use Rattle.col_csv.specs.declared.csv_error.CsvError.TheVariants.{OutOfMemory, ReadFault}
use Rattle.col_csv.specs.declared.csv_error.CsvError.TheVariants.{WriteFault, InvalidData, NotFlat}

-- The text of a table was added, whose rows have at most one value of each column.
pub record AddsText (a b : SeenSink) (expected : Option Table) : Type 0 where
  pub table : Table
  pub is : expected ≡ Some table
  pub few : has_multivalued table ≡ false
  pub added : Appends a b (csv_of table)

-- A column of the table is Multivalued, and nothing was added.
pub record IsNotFlat (a b : SeenSink) (expected : Option Table) : Type 0 where
  pub table : Table
  pub is : expected ≡ Some table
  pub many : has_multivalued table ≡ true
  pub same : b ≡ a

-- The bytes stand for no table, and nothing was added.
pub record IsNoTable (a b : SeenSink) (expected : Option Table) : Type 0 where
  pub none : expected ≡ None
  pub same : b ≡ a

-- Why a table isn't written: want of memory, the count of faults of the file or of the sink, bytes
-- that stand for no table, or a Multivalued column.
abbrev pub RefusesText : SeenFile → SeenFile → SeenSink → SeenSink → CsvError →
    (List ℕ → Option Table) → Type 0
RefusesText old new a b OutOfMemory expected = Unit {0}
RefusesText old new a b ReadFault expected = Rose old.faults new.faults
RefusesText old new a b WriteFault expected = Faulted a b
RefusesText old new a b InvalidData expected =
    IfSome old.told (λ bytes. IsNoTable a b (expected bytes))
RefusesText old new a b NotFlat expected = IfSome old.told (λ bytes. IsNotFlat a b (expected bytes))
RefusesText old new a b _ expected = ⊥

-- Ok added the text of the table that is expected of the file's bytes, where the file tells these;
-- a refusal has a cause.
abbrev pub ExportsAs : SeenFile → SeenFile → SeenSink → SeenSink →
    Result (Unit {0}) CsvError → (List ℕ → Option Table) → Type 0
ExportsAs old new a b (Ok done) expected = IfSome old.told (λ bytes. AddsText a b (expected bytes))
ExportsAs old new a b (Err e) expected = RefusesText old new a b e expected

-- the same of the table that the bytes stand for
abbrev pub ExportsFile : SeenFile → SeenFile → SeenSink → SeenSink →
    Result (Unit {0}) CsvError → Type 0
ExportsFile old new a b result = ExportsAs old new a b result table_of

-- ---- a table that is known

-- The text of a table was added, or why not: no file is read.
abbrev pub WritesText : SeenSink → SeenSink → Result (Unit {0}) CsvError → Table → Type 0
WritesText a b (Ok done) t = AddsText a b (Some t)
WritesText a b (Err OutOfMemory) t = Unit {0}
WritesText a b (Err WriteFault) t = Faulted a b
WritesText a b (Err NotFlat) t = IsNotFlat a b (Some t)
WritesText a b (Err _) t = ⊥
