-- What an export leaves of a file.
use Rattle.std.proofs.Common.{◌≡◌, ◌≤◌, ◌+◌, ℕ, List, [], ◌++◌, length, Option, Some, None, Result, Ok, Err, IfSome, refl, sym, ap, ◌∙◌, subst, arith}
use Rattle.std.proofs.lemmas.List.{length-map}
use Rattle.std.proofs.lemmas.Option.{same_Some}
use Rattle.std.specs.declared.alloc.Global.{Global}
use Rattle.std.specs.declared.vec.Vec.{Vec}
use Rattle.col_common.specs.Causes.{Rose}
use Rattle.col_common.specs.Outside.{SeenFile, in_memory}
use Rattle.col_common.specs.declared.error.ColumnarError.{ColumnarError}
use Rattle.col_common.specs.declared.error.ColumnarError.TheVariants.{OutOfMemory, ReadFault, InvalidData}
use Rattle.col_csv.specs.Csv.{csv_of}
use Rattle.col_csv.specs.Refused.{refusal_of}
use Rattle.col_csv.specs.declared.csv_error.CsvError.{CsvError}
use Rattle.col_csv.specs.declared.csv_error.CsvError.TheVariants as csv
use Rattle.col_csv_export.specs.Exports.{AddsText, IsNoTable, IsNotFlat, RefusesText}
use Rattle.col_exchange.specs.Exchanges.{AnswersWithText, ExportsOne, IsExport, IsMany, IsShortReport, IsText, RefusesWithText, export_reads}
use Rattle.col_exchange.specs.declared.exporting.Exchanged.{Exchanged}
use Rattle.col_file.specs.Files.{ReadsFile, RefusesFile, AnswersForHandle, IsExpected}
use Rattle.col_file.specs.Readers.{SeenReader}
use Rattle.col_file.proofs.ReadLemmas.{rose-later}
use Rattle.col_model.specs.File.{Part, part_column, parts_of, table_of}
use Rattle.col_model.specs.Keys.{FileKeys, keys}
use Rattle.col_model.specs.Table.{Table}

-- ---- a file that isn't opened

-- a file without a key table stands for no table
table-none : (told : Option (List ℕ)) → IfSome told (λ bytes. keys bytes ≡ None) → IfSome told (λ bytes. table_of bytes ≡ None)
unfolding parts_of
table-none None h = tt
table-none (Some bytes) h = rw h refl

-- a file that isn't opened is refused as one of no table
refuses-unopened : (old new : SeenFile) (e : ColumnarError) → RefusesFile old new e keys → RefusesWithText old new (refusal_of e)
refuses-unopened old new OutOfMemory h = tt
refuses-unopened old new InvalidData h = table-none old.told h
refuses-unopened old new ReadFault h = h
refuses-unopened old new _ h = absurd h

-- an export takes two reads at least
two-reads : (o : Option Part) → 2 ≤ export_reads o
two-reads None = omega arith
two-reads (Some p) = omega arith

-- so two reads are no more than it takes
reads-unopened : (told : Option (List ℕ)) (before after : ℕ) → after ≤ before + 2
    → IfSome told (λ bytes. after ≤ before + export_reads (parts_of bytes))
reads-unopened None before after h = tt
reads-unopened (Some bytes) before after h = omega (arith, h, two-reads (parts_of bytes))

-- a file that wasn't opened
pub exports-unopened : (old new : SeenFile) (e : ColumnarError) (r : CsvError) → r ≡ refusal_of e
    → RefusesFile old new e keys × ReadsFile 2 old new → ExportsOne old new (Err r)
exports-unopened old new e r is h = record {
  answer = subst (RefusesWithText old new) (sym is) (refuses-unopened old new e h.0);
  kept = (2, h.1);
  reads = reads-unopened old.told old.reads new.reads h.1.reads;
}

-- ---- a file that is opened

-- a file with a key table has a part with as many columns as there are entries
takes-entries : (bytes : List ℕ) (k : FileKeys) → keys bytes ≡ Some k
    → export_reads (parts_of bytes) ≡ 2 + (length k.entries + length k.entries)
unfolding parts_of
takes-entries bytes k h = rw h (ap (λ n. 2 + (n + n)) (length-map k.entries (part_column bytes k)))

-- two reads, and two each of its entries, are no more than an export takes
reads-opened : (told : Option (List ℕ)) (k : FileKeys) (before between after : ℕ)
    → IfSome told (λ bytes. keys bytes ≡ Some k) → between ≤ before + 2
    → after ≤ between + (length k.entries + length k.entries)
    → IfSome told (λ bytes. after ≤ before + export_reads (parts_of bytes))
reads-opened None k before between after h opened read = tt
reads-opened (Some bytes) k before between after h opened read = omega (arith, takes-entries bytes k h, opened, read)

-- a file that was read, and then read again, was read as often as both
reads-then : (m n : ℕ) (a b c : SeenFile) → ReadsFile m a b → ReadsFile n b c → ReadsFile (m + n) a c
reads-then m n a b c h k = record {
  told = k.told ∙ h.told;
  size = k.size ∙ h.size;
  later = omega (arith, h.later, k.later);
  reads = omega (arith, h.reads, k.reads);
  mark = k.mark ∙ h.mark;
}

-- why a file that was opened has no text, the file has none
refuses-opened : (old mid new : SeenFile) (e : CsvError) → ReadsFile 2 old mid → RefusesWithText mid new e → RefusesWithText old new e
refuses-opened old mid new csv.OutOfMemory r h = tt
refuses-opened old mid new csv.ReadFault r h = rose-later old.faults mid.faults new.faults r.later h
refuses-opened old mid new csv.InvalidData r h = subst (λ told. IfSome told (λ bytes. table_of bytes ≡ None)) r.told h
refuses-opened old mid new csv.NotFlat r h = subst (λ told. IfSome told (λ bytes. IsMany (table_of bytes))) r.told h
refuses-opened old mid new _ r h = absurd h

-- what is answered for the opened file is answered for the file
answers-opened : (old mid new : SeenFile) (result : Result Exchanged CsvError) → ReadsFile 2 old mid
    → AnswersWithText IsExport mid new result → AnswersWithText IsExport old new result
answers-opened old mid new (Ok made) r h = subst (λ told. IfSome told (λ bytes. IsExpected IsExport made (table_of bytes))) r.told h
answers-opened old mid new (Err e) r h = refuses-opened old mid new e r h

-- a file that was opened
pub exports-opened : (old : SeenFile) (r : SeenReader) (new : SeenFile) (result : Result Exchanged CsvError)
    → IfSome old.told (λ bytes. keys bytes ≡ Some r.keys) × ReadsFile 2 old r.file
    → AnswersWithText IsExport r.file new result
    → ReadsFile (length r.keys.entries + length r.keys.entries) r.file new → ExportsOne old new result
exports-opened old r new result opened answer reads = record {
  answer = answers-opened old r.file new result opened.1 answer;
  kept = (_, reads-then 2 (length r.keys.entries + length r.keys.entries) old r.file new opened.1 reads);
  reads = reads-opened old.told r.keys old.reads r.file.reads new.reads opened.0 opened.1.reads reads.reads;
}

-- ---- the text

-- nothing in memory fails
unfaulted : Rose 0 0 → ⊥
unfaulted h = omega (arith, h)

-- the bytes that an export wrote are the text
pub text-made : (told : Option (List ℕ)) (xs ys bytes : List ℕ) → xs ≡ [] → bytes ≡ ys
    → IfSome told (λ b. AddsText (in_memory xs) (in_memory ys) (table_of b))
    → IfSome told (λ b. IsExpected IsText bytes (table_of b))
text-made None xs ys bytes none same h = tt
text-made (Some b) xs ys bytes none same h = by (table_of b) h
  where
    by : (o : Option Table) → AddsText (in_memory xs) (in_memory ys) o → IsExpected IsText bytes o
    by o adds =
        let text : bytes ≡ csv_of adds.table =
        same ∙ same_Some ys (xs ++ csv_of adds.table) adds.added ∙ ap (λ zs. zs ++ csv_of adds.table) none in
        subst (IsExpected IsText bytes) (sym adds.is) (adds.few, text)

-- a file that has no table hasn't one, whatever the sink
no-table : (told : Option (List ℕ)) (xs ys : List ℕ)
    → IfSome told (λ b. IsNoTable (in_memory xs) (in_memory ys) (table_of b)) → IfSome told (λ b. table_of b ≡ None)
no-table None xs ys h = tt
no-table (Some b) xs ys h = h.none

-- a table that isn't flat has a Multivalued column, whatever the sink
is-many : (told : Option (List ℕ)) (xs ys : List ℕ)
    → IfSome told (λ b. IsNotFlat (in_memory xs) (in_memory ys) (table_of b)) → IfSome told (λ b. IsMany (table_of b))
is-many None xs ys h = tt
is-many (Some b) xs ys h = subst IsMany (sym h.is) h.many

-- an export into memory refuses as a reader of the file does
pub text-refused : (old new : SeenFile) (xs ys : List ℕ) (e : CsvError)
    → RefusesText old new (in_memory xs) (in_memory ys) e table_of → RefusesWithText old new e
text-refused old new xs ys csv.OutOfMemory h = tt
text-refused old new xs ys csv.ReadFault h = h
text-refused old new xs ys csv.WriteFault h = absurd (unfaulted h)
text-refused old new xs ys csv.InvalidData h = no-table old.told xs ys h
text-refused old new xs ys csv.NotFlat h = is-many old.told xs ys h
text-refused old new xs ys _ h = absurd h

-- ---- the text and the report

-- a text was made, and then a report
pub both-made : (old mid new : SeenFile) (times : ℕ) (bytes : List ℕ) (report : List ℕ) → ReadsFile times old mid
    → AnswersWithText IsText old mid (Ok bytes) → AnswersForHandle IsShortReport mid new (Ok report) table_of
    → AnswersWithText IsExport old new (Ok (record { bytes = bytes; report = report }))
both-made old mid new times bytes report read text made =
    at old.told text (subst (λ told. IfSome told (λ b. IsExpected IsShortReport report (table_of b))) read.told made)
  where
    by : (o : Option Table) → IsExpected IsText bytes o → IsExpected IsShortReport report o
        → IsExpected IsExport (record { bytes = bytes; report = report }) o
    by None text made = absurd text
    by (Some t) text made = (text, made)

    at : (told : Option (List ℕ)) → IfSome told (λ b. IsExpected IsText bytes (table_of b))
        → IfSome told (λ b. IsExpected IsShortReport report (table_of b))
        → IfSome told (λ b. IsExpected IsExport (record { bytes = bytes; report = report }) (table_of b))
    at None text made = tt
    at (Some b) text made = by (table_of b) text made

-- a text was made, and no report
pub report-refused : (old mid new : SeenFile) (times : ℕ) (e : ColumnarError) (r : CsvError) → r ≡ refusal_of e
    → ReadsFile times old mid → RefusesFile mid new e table_of → AnswersWithText IsExport old new (Err r)
report-refused old mid new times e r is read h = subst (RefusesWithText old new) (sym is) (by e h)
  where
    by : (e : ColumnarError) → RefusesFile mid new e table_of → RefusesWithText old new (refusal_of e)
    by OutOfMemory h = tt
    by ReadFault h = rose-later old.faults mid.faults new.faults read.later h
    by InvalidData h = subst (λ told. IfSome told (λ bytes. table_of bytes ≡ None)) read.told h
    by _ h = absurd h

-- no text was made, and so no report
pub text-only : (old new : SeenFile) (e r : CsvError) → r ≡ e → AnswersWithText IsText old new (Err e)
    → AnswersWithText IsExport old new (Err r)
text-only old new e r is h = subst (RefusesWithText old new) (sym is) h
