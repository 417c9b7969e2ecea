-- The statuses of exports and imports, and which words they come of.
use Rattle.std.proofs.Common.{◌≡◌, ◌==◌, ℕ, suc, zero, true, false, List, [], ◌∷◌, String, Contains, refl, arith}
use Rattle.std.specs.Prelude.{◌||◌}
use Rattle.std.specs.declared.alloc.Global.{Global}
use Rattle.std.proofs.lemmas.List.Elements.{All-contains, All-from_recursion}
use Rattle.col_tool.specs.Answer.{answers, import_refusals}
use Rattle.col_tool.specs.Expected.{OfExchanges, ask_for_export, ask_for_import}
use Rattle.col_tool.specs.Statuses.{check_statuses, export_statuses, import_statuses, statuses}
use Rattle.col_tool.proofs.RefusedLemmas.{IsAsked}

-- ---- lists of statuses

-- those of an export are among those of the program
pub export-among : (status : ℕ) → Contains export_statuses status → Contains statuses status
export-among status (zero, within, e) = (0, omega arith, e)
export-among status (suc zero, within, e) = (2, omega arith, e)
export-among status (suc (suc zero), within, e) = (3, omega arith, e)
export-among status (suc (suc (suc zero)), within, e) = (4, omega arith, e)
export-among status (suc (suc (suc (suc zero))), within, e) = (5, omega arith, e)
export-among status (suc (suc (suc (suc (suc zero)))), within, e) = (18, omega arith, e)
export-among status (suc (suc (suc (suc (suc (suc k))))), within, e) = absurd (omega (arith, within))

-- so are those of an import
pub import-among : (status : ℕ) → Contains import_statuses status → Contains statuses status
import-among status (zero, within, e) = (0, omega arith, e)
import-among status (suc zero, within, e) = (2, omega arith, e)
import-among status (suc (suc zero), within, e) = (3, omega arith, e)
import-among status (suc (suc (suc zero)), within, e) = (4, omega arith, e)
import-among status (suc (suc (suc (suc zero))), within, e) = (17, omega arith, e)
import-among status (suc (suc (suc (suc (suc zero)))), within, e) = (19, omega arith, e)
import-among status (suc (suc (suc (suc (suc (suc k))))), within, e) = absurd (omega (arith, within))

-- the statuses of a delivery are among those of an export
pub delivered-exports : (status : ℕ) → Contains (0 ∷ 3 ∷ 5 ∷ []) status → Contains export_statuses status
delivered-exports status (zero, within, e) = (0, omega arith, e)
delivered-exports status (suc zero, within, e) = (1, omega arith, e)
delivered-exports status (suc (suc zero), within, e) = (3, omega arith, e)
delivered-exports status (suc (suc (suc k)), within, e) = absurd (omega (arith, within))

-- and among those of an import
pub delivered-imports : (status : ℕ) → Contains (0 ∷ 3 ∷ 5 ∷ []) status → Contains import_statuses status
delivered-imports status (zero, within, e) = (0, omega arith, e)
delivered-imports status (suc zero, within, e) = (1, omega arith, e)
delivered-imports status (suc (suc zero), within, e) = (3, omega arith, e)
delivered-imports status (suc (suc (suc k)), within, e) = absurd (omega (arith, within))

-- so are those of its refusals
pub refusals-import : (status : ℕ) → Contains import_refusals status → Contains import_statuses status
refusals-import status (zero, within, e) = (1, omega arith, e)
refusals-import status (suc zero, within, e) = (2, omega arith, e)
refusals-import status (suc (suc zero), within, e) = (4, omega arith, e)
refusals-import status (suc (suc (suc zero)), within, e) = (5, omega arith, e)
refusals-import status (suc (suc (suc (suc k))), within, e) = absurd (omega (arith, within))

-- ---- statuses that aren't among them

-- none is that of other words
pub export-asked : (status : ℕ) → Contains export_statuses status → IsAsked status
export-asked status among =
    All-contains IsAsked export_statuses status
    (All-from_recursion IsAsked export_statuses (refl, (refl, (refl, (refl, (refl, (refl, tt))))))) among

pub import-asked : (status : ℕ) → Contains import_statuses status → IsAsked status
import-asked status among =
    All-contains IsAsked import_statuses status
    (All-from_recursion IsAsked import_statuses (refl, (refl, (refl, (refl, (refl, (refl, tt))))))) among

-- an import refuses none as no file
abbrev IsNoFile : ℕ → Type 0
IsNoFile n = (n == 6) ≡ false

pub import-valid : (status : ℕ) → Contains import_statuses status → status ≡ 6 → ⊥
import-valid status among six =
    let valid : IsNoFile status =
    All-contains IsNoFile import_statuses status
    (All-from_recursion IsNoFile import_statuses (refl, (refl, (refl, (refl, (refl, (refl, tt))))))) among in
    let h = rw six at valid in cc

-- no refusal of an import is a good end, or a write that failed
abbrev IsUnwritten : ℕ → Type 0
IsUnwritten n = ((n == 0) || (n == 5)) ≡ false

import-unwritten : (status : ℕ) → Contains import_refusals status → IsUnwritten status
import-unwritten status among =
    All-contains IsUnwritten import_refusals status
    (All-from_recursion IsUnwritten import_refusals (refl, (refl, (refl, (refl, tt))))) among

pub import-not_done : (status : ℕ) → Contains import_refusals status → status ≡ 0 → ⊥
import-not_done status among same = let h = rw same at (import-unwritten status among) in cc

pub import-no_write : (status : ℕ) → Contains import_refusals status → status ≡ 5 → ⊥
import-no_write status among same = let h = rw same at (import-unwritten status among) in cc

-- ---- statuses of some words alone

-- neither the status of a table that isn't flat nor that of a bad text
abbrev pub IsNoExchange : ℕ → Type 0
IsNoExchange n = ((n == 22) || (n == 23)) ≡ false

-- such a status may come of any words
pub no-exchange : (words : List (String Global)) (inputs status : ℕ) → IsNoExchange status → OfExchanges words inputs status
no-exchange words inputs status other = record {
  not_flat = λ same. let h = rw same at other in cc;
  bad_csv = λ same. let h = rw same at other in cc;
}

-- so it is with the statuses of a check
pub check-exchanges : (words : List (String Global)) (inputs status : ℕ) → Contains check_statuses status
    → OfExchanges words inputs status
check-exchanges words inputs status among =
    no-exchange words inputs status (All-contains IsNoExchange check_statuses status
    (All-from_recursion IsNoExchange check_statuses (refl, (refl, (refl, (refl, (refl, tt)))))) among)

-- and with those of a merge
pub answer-exchanges : (words : List (String Global)) (inputs status : ℕ) → Contains answers status
    → OfExchanges words inputs status
answer-exchanges words inputs status among =
    no-exchange words inputs status (All-contains IsNoExchange answers status (All-from_recursion IsNoExchange answers (
      refl,
      (
        refl,
        (
          refl,
          (
            refl,
            (refl, (refl, (refl, (refl, (refl, (refl, (refl, (refl, (refl, (refl, (refl, (refl, (refl, tt))))))))))))),
          ),
        ),
      ),
    )) among)

-- an export has the first alone
abbrev IsNotBadCsv : ℕ → Type 0
IsNotBadCsv n = (n == 23) ≡ false

pub export-exchanges : (words : List (String Global)) (inputs status : ℕ) → ask_for_export words inputs ≡ true
    → Contains export_statuses status → OfExchanges words inputs status
export-exchanges words inputs status asked among =
    let other : IsNotBadCsv status =
    All-contains IsNotBadCsv export_statuses status
    (All-from_recursion IsNotBadCsv export_statuses (refl, (refl, (refl, (refl, (refl, (refl, tt))))))) among in
    record { not_flat = λ same. asked; bad_csv = λ same. let h = rw same at other in cc }

-- an import has the second alone
abbrev IsNotFlatless : ℕ → Type 0
IsNotFlatless n = (n == 22) ≡ false

pub import-exchanges : (words : List (String Global)) (inputs status : ℕ) → ask_for_import words inputs ≡ true
    → Contains import_statuses status → OfExchanges words inputs status
import-exchanges words inputs status asked among =
    let other : IsNotFlatless status =
    All-contains IsNotFlatless import_statuses status
    (All-from_recursion IsNotFlatless import_statuses (refl, (refl, (refl, (refl, (refl, (refl, tt))))))) among in
    record { not_flat = λ same. let h = rw same at other in cc; bad_csv = λ same. asked }
