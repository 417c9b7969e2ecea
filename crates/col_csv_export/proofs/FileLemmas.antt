-- What writing a file's table as CSV answers.
use Rattle.std.proofs.Common.{◌≡◌, ◌∙◌, ℕ, List, map, Option, Some, None, IfSome, Result, Ok, Err, refl, sym, ap}
use Rattle.col_common.specs.Outside.{SeenFile, SeenSink}
use Rattle.col_common.specs.declared.error.ColumnarError.{ColumnarError}
use Rattle.col_common.specs.declared.error.ColumnarError.TheVariants as store
use Rattle.col_model.specs.File.{table_of}
use Rattle.col_model.specs.Keys.{FileKeys}
use Rattle.col_model.specs.Table.{Table}
use Rattle.col_file.specs.Files.{IsExpected, RefusesFile}
use Rattle.col_opened.specs.Opened.{column_of, open_in, AreOpen}
use Rattle.col_opened.specs.declared.open_columns.OpenColumn.{OpenColumn}
use Rattle.col_opened.specs.declared.open_columns.OpenColumns.{OpenColumns}
use Rattle.col_csv_export.specs.Exports.{AddsText, ExportsFile, IsNoTable, IsNotFlat, RefusesText, WritesText}
use Rattle.col_csv.specs.Refused.{refusal_of}
use Rattle.col_csv.specs.declared.csv_error.CsvError.{CsvError}
use Rattle.col_csv.specs.declared.csv_error.CsvError.TheVariants as refusals

-- a refusal to open the columns, which leaves the sink as it was
pub open-refused : (old new : SeenFile) (a : SeenSink) (e : ColumnarError) → RefusesFile old new e table_of
    → RefusesText old new a a (refusal_of e) table_of
open-refused old new a store.OutOfMemory h = tt
open-refused old new a store.ReadFault h = h
open-refused old new a store.InvalidData h = by old.told h
  where
    by : (told : Option (List ℕ)) → IfSome told (λ bytes. table_of bytes ≡ None)
        → IfSome told (λ bytes. IsNoTable a a (table_of bytes))
    by None h = tt
    by (Some bytes) h = record { none = h; same = refl }
open-refused old new a _ h = absurd h

-- what was written of open columns is what is expected of their file
pub exported : (old new : SeenFile) (a b : SeenSink) (r : Result (Unit {0}) CsvError) (k : FileKeys) (c : OpenColumns)
    (cs : List OpenColumn) (n : ℕ) → cs ≡ open_in c → n ≡ k.row_count
    → IfSome old.told (λ bytes. IsExpected (λ t columns. AreOpen k t columns) c (table_of bytes))
    → ((t : Table) → t.row_count ≡ n → map column_of cs ≡ t.columns → WritesText a b r t)
    → ExportsFile old new a b r
exported old new a b r k c cs n same is opened writes = by r writes
  where
    own : Table
    own = record { row_count = n; columns = map column_of cs }

    Writes : Result (Unit {0}) CsvError → Type 0
    Writes r = (t : Table) → t.row_count ≡ n → map column_of cs ≡ t.columns → WritesText a b r t

    told : (P : Option Table → Type 0) → ((t : Table) → AreOpen k t c → P (Some t))
        → (o : Option (List ℕ)) → IfSome o (λ bytes. IsExpected (λ t columns. AreOpen k t columns) c (table_of bytes))
        → IfSome o (λ bytes. P (table_of bytes))
    told P f None h = tt
    told P f (Some bytes) h = at (table_of bytes) h
      where
        at : (t : Option Table) → IsExpected (λ t columns. AreOpen k t columns) c t → P t
        at None h = absurd h
        at (Some t) h = f t h

    known : (r : Result (Unit {0}) CsvError) → Writes r → (t : Table) → AreOpen k t c → WritesText a b r t
    known r w t are = w t (are.row_count ∙ sym is) (ap (map column_of) same ∙ are.columns)

    by : (r : Result (Unit {0}) CsvError) → Writes r → ExportsFile old new a b r
    by (Ok done) w = told (AddsText a b) (known (Ok done) w) old.told opened
    by (Err refusals.NotFlat) w = told (IsNotFlat a b) (known (Err refusals.NotFlat) w) old.told opened
    by (Err refusals.OutOfMemory) w = tt
    by (Err refusals.WriteFault) w = w own refl refl
    by (Err _) w = absurd (w own refl refl)
