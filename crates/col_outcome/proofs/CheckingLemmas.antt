-- What a check leaves of a file.
use Rattle.std.proofs.Common.{◌≡◌, ◌≤◌, ◌+◌, ℕ, List, length, Option, Some, None, Result, Ok, Err, IfSome, refl, ap, subst, arith}
use Rattle.std.proofs.lemmas.List.{length-map}
use Rattle.col_common.specs.Outside.{SeenFile}
use Rattle.col_common.specs.declared.error.ColumnarError.{ColumnarError}
use Rattle.col_common.specs.declared.error.ColumnarError.TheVariants.{OutOfMemory, ReadFault, InvalidData}
use Rattle.col_file.specs.Files.{ReadsFile, IsExpected, RefusesFile, AnswersForHandle}
use Rattle.col_file.specs.Readers.{SeenReader}
use Rattle.col_file.proofs.ReadLemmas.{rose-later}
use Rattle.col_program.specs.Check.{check_report}
use Rattle.col_model.specs.File.{Part, part_column, parts_of}
use Rattle.col_model.specs.Keys.{FileKeys, keys}
use Rattle.col_outcome.specs.Checking.{Report, ChecksFile, whole_reads}
use Rattle.col_outcome.proofs.PartLemmas.{keeps-read, keeps-then}

-- ---- a file that isn't opened

-- a file without a key table has no part
pub parts-none : (told : Option (List ℕ)) → IfSome told (λ bytes. keys bytes ≡ None) → IfSome told (λ bytes. parts_of bytes ≡ None)
unfolding parts_of
parts-none None h = tt
parts-none (Some bytes) h = rw h refl

-- a file that isn't opened is refused as one of no part
refuses-parts : (old new : SeenFile) (e : ColumnarError) → RefusesFile old new e keys → RefusesFile old new e parts_of
refuses-parts old new OutOfMemory h = tt
refuses-parts old new InvalidData h = parts-none old.told h
refuses-parts old new ReadFault h = h
refuses-parts old new _ h = absurd h

-- all of a file takes two reads at least
two-reads : (o : Option Part) → 2 ≤ whole_reads o
two-reads None = omega arith
two-reads (Some p) = omega arith

-- so two reads are no more than it takes
pub reads-unopened : (told : Option (List ℕ)) (before after : ℕ) → after ≤ before + 2
    → IfSome told (λ bytes. after ≤ before + whole_reads (parts_of bytes))
reads-unopened None before after h = tt
reads-unopened (Some bytes) before after h = omega (arith, h, two-reads (parts_of bytes))

-- a file that wasn't opened
pub checks-unopened : (old new : SeenFile) (e : ColumnarError) → RefusesFile old new e keys × ReadsFile 2 old new
    → ChecksFile old new (Err e)
checks-unopened old new e h = record {
  answer = refuses-parts old new e h.0;
  kept = keeps-read 2 old new h.1;
  reads = reads-unopened old.told old.reads new.reads h.1.reads;
}

-- ---- a file that is opened

-- a file with a key table has a part with as many columns as there are entries
takes-entries : (bytes : List ℕ) (k : FileKeys) → keys bytes ≡ Some k → whole_reads (parts_of bytes) ≡ 2 + length k.entries
unfolding parts_of
takes-entries bytes k h = rw h (ap (λ n. 2 + n) (length-map k.entries (part_column bytes k)))

-- two reads, and one each of its entries, are no more than all of a file takes
pub reads-opened : (told : Option (List ℕ)) (k : FileKeys) (before between after : ℕ)
    → IfSome told (λ bytes. keys bytes ≡ Some k) → between ≤ before + 2 → after ≤ between + length k.entries
    → IfSome told (λ bytes. after ≤ before + whole_reads (parts_of bytes))
reads-opened None k before between after h opened read = tt
reads-opened (Some bytes) k before between after h opened read = omega (arith, takes-entries bytes k h, opened, read)

-- what is answered for the opened file is answered for the file
pub answers-opened : {T V : Type 0} (IsOf : V → T → Type 0) (expected : List ℕ → Option V) (old mid new : SeenFile)
    (result : Result T ColumnarError) → ReadsFile 2 old mid → AnswersForHandle IsOf mid new result expected
    → AnswersForHandle IsOf old new result expected
answers-opened IsOf expected old mid new (Ok made) r h =
    subst (λ told. IfSome told (λ bytes. IsExpected IsOf made (expected bytes))) r.told h
answers-opened IsOf expected old mid new (Err OutOfMemory) r h = tt
answers-opened IsOf expected old mid new (Err InvalidData) r h =
    subst (λ told. IfSome told (λ bytes. expected bytes ≡ None)) r.told h
answers-opened IsOf expected old mid new (Err ReadFault) r h = rose-later old.faults mid.faults new.faults r.later h
answers-opened IsOf expected old mid new (Err _) r h = absurd h

-- a file that was opened
pub checks-opened : (old : SeenFile) (r : SeenReader) (new : SeenFile) (result : Report)
    → IfSome old.told (λ bytes. keys bytes ≡ Some r.keys) × ReadsFile 2 old r.file
    → AnswersForHandle (λ p report. report.items ≡ check_report p) r.file new result parts_of
    → ReadsFile (length r.keys.entries) r.file new → ChecksFile old new result
checks-opened old r new result opened answer reads = record {
  answer = answers-opened (λ p report. report.items ≡ check_report p) parts_of old r.file new result opened.1 answer;
  kept = keeps-then old r.file new (keeps-read 2 old r.file opened.1) (keeps-read (length r.keys.entries) r.file new reads);
  reads = reads-opened old.told r.keys old.reads r.file.reads new.reads opened.0 opened.1.reads reads.reads;
}
