-- What an upgrade leaves of a file.
use Rattle.std.proofs.Common.{◌≡◌, ℕ, List, [], ◌++◌, true, length, Option, Some, None, Result, Ok, Err, IfSome, sym, ap, ◌∙◌, subst}
use Rattle.std.proofs.lemmas.Option.{same_Some}
use Rattle.col_common.specs.Outside.{SeenFile, in_memory}
use Rattle.col_common.specs.Reading.{◌>>=◌}
use Rattle.col_common.specs.declared.error.ColumnarError.{ColumnarError}
use Rattle.col_common.specs.declared.error.ColumnarError.TheVariants.{OutOfMemory, ReadFault, WriteFault, InvalidData}
use Rattle.col_file.specs.Files.{ReadsFile, RefusesFile, AnswersForHandle, IsExpected}
use Rattle.col_file.specs.Readers.{SeenReader}
use Rattle.col_model.specs.File.{StandsFor, parts_of, table_of, table_of_part}
use Rattle.col_model.specs.Keys.{keys}
use Rattle.col_program.specs.Report.{report_of}
use Rattle.col_model.specs.Table.{Table}
use Rattle.col_outcome.specs.Making.{IsMade}
use Rattle.col_outcome.specs.Upgrading.{UpgradesOne}
use Rattle.col_outcome.specs.declared.merging.FileAndReport.{FileAndReport}
use Rattle.col_outcome.proofs.CheckingLemmas.{answers-opened, parts-none, reads-opened, reads-unopened}
use Rattle.col_outcome.proofs.MergedFileLemmas.{unfaulted}
use Rattle.col_outcome.proofs.PartLemmas.{keeps-read, keeps-then}
use Rattle.col_upgrade.specs.Upgrades.{AddsTable, UpgradesFile}

-- ---- a file that isn't opened

-- a file without a part stands for no table
table-none : (told : Option (List ℕ)) → IfSome told (λ bytes. parts_of bytes ≡ None) → IfSome told (λ bytes. table_of bytes ≡ None)
table-none None h = tt
table-none (Some bytes) h = ap (λ o. o >>= table_of_part) h

-- a file that isn't opened is refused as one of no table
refuses-table : (old new : SeenFile) (e : ColumnarError) → RefusesFile old new e keys → RefusesFile old new e table_of
refuses-table old new OutOfMemory h = tt
refuses-table old new InvalidData h = table-none old.told (parts-none old.told h)
refuses-table old new ReadFault h = h
refuses-table old new _ h = absurd h

-- a file that wasn't opened
pub upgrades-unopened : (old new : SeenFile) (e : ColumnarError) → RefusesFile old new e keys × ReadsFile 2 old new
    → UpgradesOne old new (Err e)
upgrades-unopened old new e h = record {
  answer = refuses-table old new e h.0;
  kept = keeps-read 2 old new h.1;
  reads = reads-unopened old.told old.reads new.reads h.1.reads;
}

-- ---- a file that is opened

-- a file that was opened
pub upgrades-opened : (old : SeenFile) (r : SeenReader) (new : SeenFile) (result : Result FileAndReport ColumnarError)
    → IfSome old.told (λ bytes. keys bytes ≡ Some r.keys) × ReadsFile 2 old r.file
    → AnswersForHandle (IsMade true []) r.file new result table_of
    → ReadsFile (length r.keys.entries) r.file new → UpgradesOne old new result
upgrades-opened old r new result opened answer reads = record {
  answer = answers-opened (IsMade true []) table_of old r.file new result opened.1 answer;
  kept = keeps-then old r.file new (keeps-read 2 old r.file opened.1) (keeps-read (length r.keys.entries) r.file new reads);
  reads = reads-opened old.told r.keys old.reads r.file.reads new.reads opened.0 opened.1.reads reads.reads;
}

-- ---- the file that is made

-- an upgrade into memory refuses as a reader of the file does
pub memory-refuses : (old new : SeenFile) (xs ys : List ℕ) (e : ColumnarError)
    → UpgradesFile old new (in_memory xs) (in_memory ys) (Err e)
    → AnswersForHandle (IsMade true []) old new (Err e) table_of
memory-refuses old new xs ys OutOfMemory h = tt
memory-refuses old new xs ys ReadFault h = h
memory-refuses old new xs ys WriteFault h = absurd (unfaulted h)
memory-refuses old new xs ys InvalidData h = h
memory-refuses old new xs ys _ h = absurd h

-- want of memory says nothing of a file
pub want-refuses : (old new : SeenFile) (e : ColumnarError) → e ≡ OutOfMemory
    → AnswersForHandle (IsMade true []) old new (Err e) table_of
want-refuses old new e memory = subst (λ e. AnswersForHandle (IsMade true []) old new (Err e) table_of) (sym memory) tt

-- the bytes that an upgrade wrote are the file, and the report is on its table
pub upgrade-made : (old new : SeenFile) (xs ys : List ℕ) (done : Unit {0}) (made : FileAndReport) → xs ≡ [] → made.file ≡ ys
    → UpgradesFile old new (in_memory xs) (in_memory ys) (Ok done)
    → ((t : Table) → table_of made.file ≡ Some t → made.report ≡ report_of t [] true)
    → AnswersForHandle (IsMade true []) old new (Ok made) table_of
upgrade-made old new xs ys done made none same h report = at old.told h
  where
    by : (o : Option Table) → AddsTable (in_memory xs) (in_memory ys) o → IsExpected (IsMade true []) made o
    by o adds =
        let written : made.file ≡ adds.file =
        same ∙ same_Some ys (xs ++ adds.file) adds.added ∙ ap (λ zs. zs ++ adds.file) none in
        subst (IsExpected (IsMade true []) made) (sym adds.is) (
          subst (StandsFor adds.table) (sym written) adds.stands,
          report adds.table (ap table_of written ∙ adds.stands.content),
        )

    at : (told : Option (List ℕ)) → IfSome told (λ bytes. AddsTable (in_memory xs) (in_memory ys) (table_of bytes))
        → IfSome told (λ bytes. IsExpected (IsMade true []) made (table_of bytes))
    at None h = tt
    at (Some bytes) h = by (table_of bytes) h
