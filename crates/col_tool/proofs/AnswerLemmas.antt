-- What a script that was read, and what was made of it, say of the answer.
use Rattle.std.proofs.Common.{◌≡◌, ◌==◌, ◌∙◌, ℕ, Option, Some, None, Ok, Err, IfSome, List, [], ◌∷◌, Result, IfErr, true, false, Contains, refl, sym, zero, suc, arith}
use Rattle.std.specs.Prelude.{◌||◌}
use Rattle.col_common.specs.Outside.{Told, SeenFile, SeenSink}
use Rattle.col_program.specs.GenScript.{gen_script}
use Rattle.col_program.specs.Outcome.{Outcome, script_outcome}
use Rattle.col_program.specs.Script as scripts
use Rattle.col_program.specs.Script.{script_of}
use Rattle.col_script.specs.Scripts.{IsScript, IsScriptOf}
use Rattle.col_script.specs.declared.script.Script.{Script}
use Rattle.col_outcome.specs.Parts.{all_told, SomeFileRose}
use Rattle.col_outcome.specs.declared.merging.FileAndReport.{FileAndReport}
use Rattle.col_tool.specs.Answer.{refusal_status, refusals, IsAnswer, Leaves, Delivers}
use Rattle.col_tool.specs.Expected.{generated_answer, script_answer}
use Rattle.col_tool.specs.declared.refusal.Refusal.{Refusal}
use Rattle.col_tool.proofs.Left.{leaves_delivered, leaves_refused}
use Rattle.col_tool.proofs.RefusedLemmas.{refusals-not_done, refusals-unwritten}

-- what was parsed is a script
pub script-found : (o : Option scripts.Script) (found : Script) → IsScriptOf o (Some found)
    → (s : scripts.Script) × (o ≡ Some s) × IsScript s found
script-found None found is = absurd is
script-found (Some s) found is = (s, refl, is)

-- bytes of which no script was parsed spell none
pub script-none : (o : Option scripts.Script) → IsScriptOf o None → o ≡ None
script-none o none = none

-- what a refusal leaves
pub refused-leaves : (files : Option (List (List ℕ))) (told : Told) (output report : SeenSink) (e : Refusal)
    → Contains refusals (refusal_status e)
    → IfSome files (λ fs. IfSome told (λ bytes. IsAnswer (script_answer fs bytes) (Err e)))
    → IfSome files
    (λ fs. IfSome told (λ bytes. Leaves output output report report (refusal_status e) (script_answer fs bytes)))
refused-leaves None told output report e among h = tt
refused-leaves (Some fs) None output report e among h = tt
refused-leaves (Some fs) (Some bytes) output report e among h =
    leaves_refused output report e (script_answer fs bytes) h (refusals-not_done (refusal_status e) among)
    (refusals-unwritten (refusal_status e) among)

-- what a delivery leaves
pub delivered-leaves : (files : Option (List (List ℕ))) (told : Told) (output output' report report' : SeenSink)
    (made : FileAndReport) (status : ℕ)
    → IfSome files (λ fs. IfSome told (λ bytes. IsAnswer (script_answer fs bytes) (Ok made)))
    → Delivers output output' report report' made.file made.report status
    → IfSome files
    (λ fs. IfSome told (λ bytes. Leaves output output' report report' status (script_answer fs bytes)))
delivered-leaves None told output output' report report' made status h d = tt
delivered-leaves (Some fs) None output output' report report' made status h d = tt
delivered-leaves (Some fs) (Some bytes) output output' report report' made status h d =
    leaves_delivered output output' report report' made status (script_answer fs bytes) h d

-- what the script of a number comes to, without inputs
pub without-inputs : (inputs : List SeenFile) (script : List ℕ) (n : ℕ) (result : Result FileAndReport Refusal)
    → inputs ≡ [] → script ≡ gen_script n
    → IfSome (all_told inputs) (λ files. IsAnswer (script_outcome true files (script_of script)) result)
    → IsAnswer (generated_answer n) result
without-inputs inputs script n result none same h = rw (none, same) at h

-- where there is no input, none was read
pub unread : (inputs inputs' : List SeenFile) (result : Result FileAndReport Refusal) → inputs ≡ []
    → IfErr result (λ e. refusal_status e ≡ 4 → SomeFileRose inputs inputs')
    → IfErr result (λ e. refusal_status e ≡ 4 → ⊥)
unread inputs inputs' (Ok made) none h = tt
unread inputs inputs' (Err e) none h = λ four. rw none at (h four)

-- a delivery has no other status than these
pub delivered-other : (n status : ℕ) → ((n == 0) || ((n == 3) || (n == 5))) ≡ false → Contains (0 ∷ 3 ∷ 5 ∷ []) status → status ≡ n → ⊥
delivered-other n status other (zero, within, e) same = let h = rw (sym (e ∙ same)) at other in cc
delivered-other n status other (suc zero, within, e) same = let h = rw (sym (e ∙ same)) at other in cc
delivered-other n status other (suc (suc zero), within, e) same = let h = rw (sym (e ∙ same)) at other in cc
delivered-other n status other (suc (suc (suc k)), within, e) same = absurd (omega (arith, within))

-- what a refusal leaves of what is expected, whatever inputs and source tell
pub refused-is : (output report : SeenSink) (e : Refusal) (o : Outcome) → Contains refusals (refusal_status e)
    → IsAnswer o (Err e) → Leaves output output report report (refusal_status e) o
refused-is output report e o among h =
    leaves_refused output report e o h (refusals-not_done (refusal_status e) among)
    (refusals-unwritten (refusal_status e) among)
