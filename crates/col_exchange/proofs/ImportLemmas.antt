-- Files of texts that are written into memory.
use Rattle.std.proofs.Common.{◌≡◌, ℕ, List, [], ◌++◌, Option, Some, None, Err, sym, ap, ◌∙◌, subst, arith}
use Rattle.std.proofs.lemmas.Option.{same_Some}
use Rattle.std.specs.declared.alloc.Global.{Global}
use Rattle.std.specs.declared.vec.Vec.{Vec}
use Rattle.col_common.specs.Causes.{Rose}
use Rattle.col_common.specs.Outside.{in_memory}
use Rattle.col_csv.specs.declared.csv_error.CsvError.{CsvError}
use Rattle.col_csv.specs.declared.csv_error.CsvError.TheVariants.{OutOfMemory, ReadFault, WriteFault, InvalidData, LongCsv, NotFlat, BadCsv}
use Rattle.col_csv_import.specs.Imports.{AddsTable, Imports, table_or_bad}
use Rattle.col_exchange.specs.Exchanges.{IsImport, IsShortReport, RefusesForText}
use Rattle.col_file.specs.Files.{IsExpected}
use Rattle.col_model.specs.File.{StandsFor, table_of}
use Rattle.col_model.specs.Table.{Table}

-- the bytes that an import wrote are a file of the table
pub file-made : (o : Option Table) (xs ys bytes : List ℕ) → xs ≡ [] → bytes ≡ ys
    → AddsTable (in_memory xs) (in_memory ys) (table_or_bad o) → IsExpected StandsFor bytes o
file-made None xs ys bytes none same h = let is = h.is in cc
file-made (Some t) xs ys bytes none same h =
    let same_table : t ≡ h.table = (let is = h.is in cc) in
    let file : bytes ≡ h.file = same ∙ same_Some ys (xs ++ h.file) h.added ∙ ap (λ zs. zs ++ h.file) none in
    subst (λ b. StandsFor t b) (sym file) (subst (λ u. StandsFor u h.file) (sym same_table) h.stands)

-- a text of which an import refuses as bad has no table
bad-none : (o : Option Table) → table_or_bad o ≡ Err BadCsv → o ≡ None
bad-none None is = cc
bad-none (Some t) is = cc

-- no other refusal is expected of a text
never : (o : Option Table) (e : CsvError) → (e ≡ BadCsv → ⊥) → table_or_bad o ≡ Err e → ⊥
never None e other is = other (let h = is in cc)
never (Some t) e other is = cc

-- an import into memory refuses for want of memory, or a text of no table
pub file-refused : (o : Option Table) (xs ys : List ℕ) (e : CsvError)
    → Imports ⊥ (in_memory xs) (in_memory ys) (Err e) (table_or_bad o) → RefusesForText e o
file-refused o xs ys OutOfMemory h = tt
file-refused o xs ys BadCsv h = bad-none o h.0
file-refused o xs ys ReadFault h = absurd h.0
file-refused o xs ys WriteFault h = absurd (unfaulted h.1)
  where
    unfaulted : Rose 0 0 → ⊥
    unfaulted h = omega (arith, h)
file-refused o xs ys InvalidData h = absurd (never o InvalidData (λ is. cc) h.0)
file-refused o xs ys LongCsv h = absurd (never o LongCsv (λ is. cc) h.0)
file-refused o xs ys NotFlat h = absurd (never o NotFlat (λ is. cc) h.0)

-- a file was made, and then a report on its table
pub both-made : (o : Option Table) (bytes : List ℕ) (report : List ℕ) → IsExpected StandsFor bytes o
    → ((t : Table) → table_of bytes ≡ Some t → IsShortReport t report)
    → IsExpected IsImport (record { bytes = bytes; report = report }) o
both-made None bytes report h made = absurd h
both-made (Some t) bytes report h made = (h, made t h.content)

-- no file was made, and so no report
pub file-only : (o : Option Table) (e r : CsvError) → r ≡ e → RefusesForText e o → RefusesForText r o
file-only o e r is h = subst (λ e. RefusesForText e o) (sym is) h
