-- The statuses that a script alone decides.
use Rattle.std.proofs.Common.{◌≡◌, ◌==◌, ◌⊎◌, ◌∙◌, ℕ, List, [], ◌∷◌, length, Option, Some, None, IfSome, Result, Ok, Err, false, Contains, inl, inr, refl, sym, ap, subst, arith, zero, suc}
use Rattle.std.specs.Prelude.{◌||◌, nat_lt, if◌then◌else◌}
use Rattle.col_common.specs.Outside.{Told}
use Rattle.col_common.specs.Refused.{code_of}
use Rattle.col_common.specs.declared.error.ColumnarError.{ColumnarError}
use Rattle.col_common.specs.declared.error.ColumnarError.TheVariants.{OutOfMemory, ReadFault, WriteFault, InvalidData, BadOrder, BadName, RequiredConflict, CannotCoerce, NumericalConflict, TooLarge, NoCodec, ForcedType, DocOrder, DocOutOfRange, TieBreakerStart, NotUtf8}
use Rattle.col_program.specs.Outcome.{max_script_length}
use Rattle.col_model.specs.Refusal.{Refusal}
use Rattle.col_program.specs.Script.{script_of}
use Rattle.col_outcome.specs.Making.{SegmentsDecide, refusal_of}
use Rattle.col_outcome.specs.declared.merging.FileAndReport.{FileAndReport}
use Rattle.col_tool.specs.Answer.{ScriptDecidesFirst}
use Rattle.col_tool.specs.Expected.{refusal_in, script_refusal, bytes_refusal}
use Rattle.col_tool.specs.Statuses.{ScriptDecides, script_statuses}
use Rattle.col_tool.specs.declared.refusal.Refusal as tool
use Rattle.col_headline.proofs.StatusLemmas.{code-answer}

-- none of the statuses that a script alone decides
abbrev IsOther : ℕ → Type 0
IsOther n = ((n == 14) || ((n == 15) || ((n == 16) || ((n == 17) || ((n == 20) || (n == 21)))))) ≡ false

-- such a status isn't among them
pub undecided : (status : ℕ) → IsOther status → Contains script_statuses status → ⊥
undecided status other (zero, within, e) = let h = rw (sym e) at other in cc
undecided status other (suc zero, within, e) = let h = rw (sym e) at other in cc
undecided status other (suc (suc zero), within, e) = let h = rw (sym e) at other in cc
undecided status other (suc (suc (suc zero)), within, e) = let h = rw (sym e) at other in cc
undecided status other (suc (suc (suc (suc zero))), within, e) = let h = rw (sym e) at other in cc
undecided status other (suc (suc (suc (suc (suc zero)))), within, e) = let h = rw (sym e) at other in cc
undecided status other (suc (suc (suc (suc (suc (suc k))))), within, e) = absurd (omega (arith, within))

-- want of memory, and a fault of the script, say nothing of it
pub failed-decides : (refusal : Option ℕ) (Failed : Type 0) (status : ℕ) → (status ≡ 3) ⊎ ((status ≡ 4) × Failed)
    → ScriptDecides refusal Failed status
failed-decides (Some n) Failed status cause = inr cause
failed-decides None Failed status (inl memory) = undecided status (rw memory refl)
failed-decides None Failed status (inr fault) = undecided status (rw fault.0 refl)

-- what decides where nothing fails decides where something may fail
pub decides-failing : (refusal : Option ℕ) (Failed : Type 0) (result : Result FileAndReport tool.Refusal)
    → ScriptDecidesFirst refusal ⊥ result → ScriptDecidesFirst refusal Failed result
decides-failing refusal Failed (Ok made) h = h
decides-failing None Failed (Err e) h = h
decides-failing (Some n) Failed (Err e) (inl own) = inl own
decides-failing (Some n) Failed (Err e) (inr (inl memory)) = inr (inl memory)
decides-failing (Some n) Failed (Err e) (inr (inr fault)) = absurd fault.1

-- what a text decides that isn't too long, the source decides that has it
pub read-decided : (told : Told) (text : List ℕ) (Failed : Type 0) (result : Result FileAndReport tool.Refusal)
    → IfSome told (λ bytes. bytes ≡ text) → nat_lt max_script_length (length text) ≡ false
    → ScriptDecidesFirst (script_refusal (script_of text)) ⊥ result
    → IfSome told (λ bytes. ScriptDecidesFirst (bytes_refusal bytes) Failed result)
read-decided None text Failed result same short h = tt
read-decided (Some bytes) text Failed result same short h =
    let own = script_refusal (script_of text) in
    subst (λ b. ScriptDecidesFirst (bytes_refusal b) Failed result) (sym same)
    (subst (λ b. ScriptDecidesFirst (if b then Some 21 else own) Failed result) (sym short)
    (decides-failing own Failed result h))

-- nor does what merges refuse
merge-undecided : (e : ColumnarError) (r : Refusal) → refusal_of e ≡ Some r → IsOther (code_of e)
merge-undecided OutOfMemory r is = refl
merge-undecided ReadFault r is = refl
merge-undecided WriteFault r is = refl
merge-undecided InvalidData r is = refl
merge-undecided BadOrder r is = refl
merge-undecided BadName r is = refl
merge-undecided RequiredConflict r is = refl
merge-undecided CannotCoerce r is = refl
merge-undecided NumericalConflict r is = refl
merge-undecided TooLarge r is = refl
merge-undecided NoCodec r is = refl
merge-undecided ForcedType r is = cc
merge-undecided DocOrder r is = cc
merge-undecided DocOutOfRange r is = cc
merge-undecided TieBreakerStart r is = cc
merge-undecided NotUtf8 r is = refl

-- what segments decide first, a refusal's status shows
pub segments-refused : {A : Type 0} (B : Type 0) (expected : Result A Refusal) (e : ColumnarError)
    → SegmentsDecide {A = A} {B = B} expected (Err e) → ScriptDecides (refusal_in expected) ⊥ (code_of e)
segments-refused B (Ok tables) e (inl memory) = undecided (code_of e) (rw memory refl)
segments-refused B (Ok tables) e (inr (inl fault)) = undecided (code_of e) (rw fault refl)
segments-refused B (Ok tables) e (inr (inr (r, is))) = undecided (code_of e) (merge-undecided e r is)
segments-refused B (Err r) e (inl memory) = inr (inl (ap code_of memory))
segments-refused B (Err r) e (inr is) = inl (ap code_of is ∙ code-answer r)

-- where something was made, segments are refused by none
pub segments-made : {A B : Type 0} (expected : Result A Refusal) (made : B) → SegmentsDecide expected (Ok made)
    → refusal_in expected ≡ None
segments-made (Ok tables) made decides = refl
segments-made (Err r) made decides = absurd decides

-- the status of a delivery is none that a script decides
pub delivery-decides : (refusal : Option ℕ) (Failed : Type 0) (status : ℕ) → refusal ≡ None
    → Contains (0 ∷ 3 ∷ 5 ∷ []) status → ScriptDecides refusal Failed status
delivery-decides (Some n) Failed status none among = cc
delivery-decides None Failed status none (zero, within, e) = undecided status (rw (← e) refl)
delivery-decides None Failed status none (suc zero, within, e) = undecided status (rw (← e) refl)
delivery-decides None Failed status none (suc (suc zero), within, e) = undecided status (rw (← e) refl)
delivery-decides None Failed status none (suc (suc (suc k)), within, e) = absurd (omega (arith, within))

-- what a delivery leaves of a script that told its bytes
pub delivered-decides : (told : Told) (refusal : List ℕ → Option ℕ) (Failed : Type 0) (status : ℕ)
    → IfSome told (λ bytes. refusal bytes ≡ None) → Contains (0 ∷ 3 ∷ 5 ∷ []) status
    → IfSome told (λ bytes. ScriptDecides (refusal bytes) Failed status)
delivered-decides None refusal Failed status none among = tt
delivered-decides (Some bytes) refusal Failed status none among = delivery-decides (refusal bytes) Failed status none among
