-- What the answer to an export leaves.
use Rattle.std.proofs.Common.{◌≡◌, ℕ, List, [], ◌∷◌, Option, Some, None, Result, Ok, Err, IfSome, Contains, Bool, true, false, inl, inr, refl, sym, ap, subst, arith}
use Rattle.std.specs.Prelude.{if◌then◌else◌}
use Rattle.std.specs.List.{AllZip}
use Rattle.col_common.specs.Outside.{SeenFile, SeenSink}
use Rattle.col_csv.specs.Csv.{csv_of, has_multivalued}
use Rattle.col_csv.specs.Refused.{code_of}
use Rattle.col_csv.specs.declared.csv_error.CsvError.{CsvError}
use Rattle.col_csv.specs.declared.csv_error.CsvError.TheVariants.{OutOfMemory, ReadFault, InvalidData, NotFlat}
use Rattle.col_exchange.specs.Exchanges.{ExportsInput, IsExport, IsMany, IsReadTwice, RefusesWithText}
use Rattle.col_exchange.specs.declared.exporting.Exchanged.{Exchanged}
use Rattle.col_model.specs.File.{table_of}
use Rattle.col_model.specs.Table.{Table}
use Rattle.col_outcome.specs.Parts.{all_told, AllKeep, SomeFileRose}
use Rattle.col_outcome.proofs.PartLemmas.{keeps-read}
use Rattle.col_program.specs.Outcome.{IsDone, IsOutput, as_text, done, refused}
use Rattle.col_program.specs.Report.{report_of}
use Rattle.col_tool.specs.Answer.{Delivers, IsAnswer, Leaves}
use Rattle.col_tool.specs.Exchanges.{exported, outcome_of_export}
use Rattle.col_tool.specs.Statuses.{export_statuses}
use Rattle.col_tool.specs.declared.refusal.Refusal.TheVariants.{Csv}
use Rattle.col_tool.proofs.InputLemmas.{IsOfOne, input-delivered, one-told}
use Rattle.col_tool.proofs.Left.{leaves_refused}

-- an export comes to what the input's bytes come to
of-export : IsOfOne table_of exported outcome_of_export
of-export = record { one = λ bytes. refl; none = refl }

-- what a table comes to, by whether some column is Multivalued
by-many : (t : Table) (many : Bool) → has_multivalued t ≡ many
    → exported (Some t) ≡ (if many then refused 22 else done (as_text (csv_of t)) (report_of t [] true))
by-many t many is = ap (λ b. if b then refused 22 else done (as_text (csv_of t)) (report_of t [] true)) is

-- the text of a table that is flat, and the report, are what it comes to
flat-done : (made : Exchanged) (t : Table) → IsExport t made
    → IsDone (exported (Some t)) (λ o lines. IsOutput o made.bytes × (made.report ≡ lines))
flat-done made t h =
    subst (λ o. IsDone o (λ o lines. IsOutput o made.bytes × (made.report ≡ lines))) (sym (by-many t false h.0.0)) (h.0.1, h.1)

-- what a text and a report leave that were made
pub export-delivered : (output output' report report' : SeenSink) (olds news : List SeenFile) (made : Exchanged) (status : ℕ)
    → ExportsInput olds news (Ok made) → Delivers output output' report report' made.bytes made.report status
    → IfSome (all_told olds) (λ files. Leaves output output' report report' status (outcome_of_export files))
export-delivered output output' report report' olds news made status x d =
    input-delivered table_of exported outcome_of_export of-export olds x.old x.before IsExport made
    output output' report report' made.bytes made.report status (flat-done made) x.exports.answer d

-- ---- refusals

-- the status of a refusal is among those of an export
refusal-exports : (old new : SeenFile) (e : CsvError) → RefusesWithText old new e → Contains export_statuses (code_of e)
refusal-exports old new OutOfMemory h = (1, omega arith, refl)
refusal-exports old new ReadFault h = (2, omega arith, refl)
refusal-exports old new InvalidData h = (4, omega arith, refl)
refusal-exports old new NotFlat h = (5, omega arith, refl)
refusal-exports old new _ h = absurd h

-- it is no good end
refusal-not_done : (old new : SeenFile) (e : CsvError) → RefusesWithText old new e → code_of e ≡ 0 → ⊥
refusal-not_done old new OutOfMemory h same = omega (arith, same)
refusal-not_done old new ReadFault h same = omega (arith, same)
refusal-not_done old new InvalidData h same = omega (arith, same)
refusal-not_done old new NotFlat h same = omega (arith, same)
refusal-not_done old new _ h same = absurd h

-- and no fault of a sink
refusal-unwritten : (old new : SeenFile) (e : CsvError) → RefusesWithText old new e → code_of e ≡ 5 → ⊥
refusal-unwritten old new OutOfMemory h same = omega (arith, same)
refusal-unwritten old new ReadFault h same = omega (arith, same)
refusal-unwritten old new InvalidData h same = omega (arith, same)
refusal-unwritten old new NotFlat h same = omega (arith, same)
refusal-unwritten old new _ h same = absurd h

-- a table with a Multivalued column is refused
many-refused : (o : Option Table) → IsMany o → exported o ≡ refused 22
many-refused None h = absurd h
many-refused (Some t) h = by-many t true h

-- a refusal is what the input's bytes come to, or want of memory, or a read that failed
refusal-answers : (old new : SeenFile) (e : CsvError) → RefusesWithText old new e
    → IfSome old.told (λ bytes. IsAnswer (outcome_of_export (bytes ∷ [])) (Err (Csv e)))
refusal-answers old new OutOfMemory h = always old.told
  where
    always : (o : Option (List ℕ)) → IfSome o (λ bytes. IsAnswer (outcome_of_export (bytes ∷ [])) (Err (Csv OutOfMemory)))
    always None = tt
    always (Some bytes) = inr (inl refl)
refusal-answers old new ReadFault h = always old.told
  where
    always : (o : Option (List ℕ)) → IfSome o (λ bytes. IsAnswer (outcome_of_export (bytes ∷ [])) (Err (Csv ReadFault)))
    always None = tt
    always (Some bytes) = inr (inr refl)
refusal-answers old new InvalidData h = always old.told h
  where
    always : (o : Option (List ℕ)) → IfSome o (λ bytes. table_of bytes ≡ None)
        → IfSome o (λ bytes. IsAnswer (outcome_of_export (bytes ∷ [])) (Err (Csv InvalidData)))
    always None h = tt
    always (Some bytes) h = inl (ap exported h)
refusal-answers old new NotFlat h = always old.told h
  where
    always : (o : Option (List ℕ)) → IfSome o (λ bytes. IsMany (table_of bytes))
        → IfSome o (λ bytes. IsAnswer (outcome_of_export (bytes ∷ [])) (Err (Csv NotFlat)))
    always None h = tt
    always (Some bytes) h = inl (many-refused (table_of bytes) h)
refusal-answers old new _ h = absurd h

-- what a refusal leaves of one input
one-refused : (output report : SeenSink) (old new : SeenFile) (e : CsvError) → RefusesWithText old new e
    → IfSome old.told (λ bytes. Leaves output output report report (code_of e) (outcome_of_export (bytes ∷ [])))
one-refused output report old new e h = at old.told (refusal-answers old new e h)
  where
    at : (o : Option (List ℕ)) → IfSome o (λ bytes. IsAnswer (outcome_of_export (bytes ∷ [])) (Err (Csv e)))
        → IfSome o (λ bytes. Leaves output output report report (code_of e) (outcome_of_export (bytes ∷ [])))
    at None is = tt
    at (Some bytes) is =
        leaves_refused output report (Csv e) (outcome_of_export (bytes ∷ [])) is (refusal-not_done old new e h)
        (refusal-unwritten old new e h)

-- what a refusal leaves
pub export-refused : (output report : SeenSink) (olds news : List SeenFile) (e : CsvError) → ExportsInput olds news (Err e)
    → IfSome (all_told olds) (λ files. Leaves output output report report (code_of e) (outcome_of_export files))
export-refused output report olds news e x =
    subst (λ fs. IfSome (all_told fs) (λ files. Leaves output output report report (code_of e) (outcome_of_export files)))
    (sym x.before) (one-told x.old (λ files. Leaves output output report report (code_of e) (outcome_of_export files))
    (one-refused output report x.old x.new e x.exports.answer))

-- its status is among those of an export
pub export-statused : (olds news : List SeenFile) (e : CsvError) → ExportsInput olds news (Err e) → Contains export_statuses (code_of e)
export-statused olds news e x = refusal-exports x.old x.new e x.exports.answer

-- it is no fault of a sink
pub export-unwritten : (olds news : List SeenFile) (e : CsvError) → ExportsInput olds news (Err e) → code_of e ≡ 5 → ⊥
export-unwritten olds news e x five = refusal-unwritten x.old x.new e x.exports.answer five

-- a read failed only where the input's count of faults rose
one-rose : (old new : SeenFile) (e : CsvError) → RefusesWithText old new e → code_of e ≡ 4
    → SomeFileRose (old ∷ []) (new ∷ [])
one-rose old new OutOfMemory h four = absurd (omega (arith, four))
one-rose old new ReadFault h four = inl h
one-rose old new InvalidData h four = absurd (omega (arith, four))
one-rose old new NotFlat h four = absurd (omega (arith, four))
one-rose old new _ h four = absurd h

pub export-rose : (olds news : List SeenFile) (e : CsvError) → ExportsInput olds news (Err e) → code_of e ≡ 4
    → SomeFileRose olds news
export-rose olds news e x four =
    subst (λ fs. SomeFileRose fs news) (sym x.before) (subst (λ fs. SomeFileRose (x.old ∷ []) fs) (sym x.behind)
    (one-rose x.old x.new e x.exports.answer four))

-- ---- the input

-- the input is handed back, and stays
pub export-kept : (olds news : List SeenFile) (result : Result Exchanged CsvError) → ExportsInput olds news result
    → AllKeep olds news
export-kept olds news result x =
    subst (λ fs. AllKeep fs news) (sym x.before) (subst (λ fs. AllKeep (x.old ∷ []) fs) (sym x.behind)
    (keeps-read x.exports.kept.0 x.old x.new x.exports.kept.1, tt))

-- it is read twice at most
pub export-reads : (olds news : List SeenFile) (result : Result Exchanged CsvError) → ExportsInput olds news result
    → AllZip IsReadTwice olds news
export-reads olds news result x =
    subst (λ fs. AllZip IsReadTwice fs news) (sym x.before)
    (subst (λ fs. AllZip IsReadTwice (x.old ∷ []) fs) (sym x.behind) (x.exports.reads, tt))
