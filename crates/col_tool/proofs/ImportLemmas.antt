-- What the answer to an import leaves.
use Rattle.std.proofs.Common.{ℕ, Option, Some, None, Result, Ok, Err, IfErr, IfSome, Contains, zero, suc, inl, inr, refl, ap, arith}
use Rattle.col_common.specs.Outside.{SeenSink, Told}
use Rattle.col_csv.specs.Refused.{code_of}
use Rattle.col_csv.specs.declared.csv_error.CsvError.{CsvError}
use Rattle.col_csv.specs.declared.csv_error.CsvError.TheVariants.{OutOfMemory, BadCsv}
use Rattle.col_exchange.specs.Exchanges.{IsImport, RefusesForText}
use Rattle.col_exchange.specs.declared.exporting.Exchanged.{Exchanged}
use Rattle.col_file.specs.Files.{IsExpected}
use Rattle.col_model.specs.Table.{Table}
use Rattle.col_outcome.specs.declared.merging.FileAndReport.{FileAndReport}
use Rattle.col_tool.specs.Answer.{Delivers, IsAnswer, Leaves, import_refusals, refusal_status, text_refusals}
use Rattle.col_tool.specs.Exchanges.{imported, outcome_of_import}
use Rattle.col_tool.specs.declared.refusal.Refusal.{Refusal}
use Rattle.col_tool.specs.declared.refusal.Refusal.TheVariants.{Csv}
use Rattle.col_tool.proofs.ExchangedStatuses.{import-no_write, import-not_done}
use Rattle.col_tool.proofs.Left.{leaves_delivered, leaves_refused}

-- ---- a text

-- the file of a text's table, and the report, are what it comes to
pub text-made : (o : Option Table) (made : Exchanged) → IsExpected IsImport made o
    → IsAnswer (imported o) (Ok (record { file = made.bytes; report = made.report }))
text-made None made h = absurd h
text-made (Some t) made h = (h.0, h.1)

-- a text's refusal is what it comes to, or want of memory
pub text-refused : (o : Option Table) (e : CsvError) → RefusesForText e o → IsAnswer (imported o) (Err (Csv e))
text-refused o OutOfMemory h = inr (inl refl)
text-refused o BadCsv h = inl (ap imported h)
text-refused o _ h = absurd h

-- its status is one of these
pub text-among : (o : Option Table) (e : CsvError) → RefusesForText e o → Contains text_refusals (code_of e)
text-among o OutOfMemory h = (0, omega arith, refl)
text-among o BadCsv h = (1, omega arith, refl)
text-among o _ h = absurd h

-- which is one of an import
pub text-import : (result : Result FileAndReport Refusal) → IfErr result (λ e. Contains text_refusals (refusal_status e))
    → IfErr result (λ e. Contains import_refusals (refusal_status e))
text-import (Ok made) h = tt
text-import (Err e) (zero, within, is) = (0, omega arith, is)
text-import (Err e) (suc zero, within, is) = (3, omega arith, is)
text-import (Err e) (suc (suc k), within, is) = absurd (omega (arith, within))

-- ---- what is left

-- what a refusal leaves
pub import-refused : (told : Told) (output report : SeenSink) (e : Refusal) → Contains import_refusals (refusal_status e)
    → IfSome told (λ bytes. IsAnswer (outcome_of_import bytes) (Err e))
    → IfSome told (λ bytes. Leaves output output report report (refusal_status e) (outcome_of_import bytes))
import-refused None output report e among h = tt
import-refused (Some bytes) output report e among h =
    leaves_refused output report e (outcome_of_import bytes) h (import-not_done (refusal_status e) among)
    (import-no_write (refusal_status e) among)

-- what a delivery leaves
pub import-delivered : (told : Told) (output output' report report' : SeenSink) (made : FileAndReport) (status : ℕ)
    → IfSome told (λ bytes. IsAnswer (outcome_of_import bytes) (Ok made))
    → Delivers output output' report report' made.file made.report status
    → IfSome told (λ bytes. Leaves output output' report report' status (outcome_of_import bytes))
import-delivered None output output' report report' made status h d = tt
import-delivered (Some bytes) output output' report report' made status h d =
    leaves_delivered output output' report report' made status (outcome_of_import bytes) h d
