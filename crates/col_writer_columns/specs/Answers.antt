-- What a call that records answers.
use Rattle.std.specs.Prelude.{◌≡◌, ◌⊎◌, Result, Ok, Err, IfOk, IfErr, OnOk, OnErr}
use Rattle.col_common.specs.declared.error.ColumnarError.{ColumnarError}
use Rattle.col_common.specs.declared.error.ColumnarError.TheVariants as answers
use Rattle.col_model.specs.Refusal.{Refusal}
use Rattle.col_model.specs.Refusal as refusals

-- the answer that a refusal is
abbrev pub answer_of : Refusal → ColumnarError
answer_of refusals.invalid_data = answers.InvalidData
answer_of refusals.bad_order = answers.BadOrder
answer_of refusals.bad_name = answers.BadName
answer_of refusals.required_conflict = answers.RequiredConflict
answer_of refusals.cannot_coerce = answers.CannotCoerce
answer_of refusals.numerical_conflict = answers.NumericalConflict
answer_of refusals.too_large = answers.TooLarge
answer_of refusals.forced_type = answers.ForcedType
answer_of refusals.doc_order = answers.DocOrder
answer_of refusals.doc_out_of_range = answers.DocOutOfRange
answer_of refusals.tie_breaker_start = answers.TieBreakerStart

-- the refusal that is expected
abbrev pub Refuses : {A : Type 0} → Result A Refusal → ColumnarError → Type 0
Refuses {A} expected e = (r : Refusal) × (expected ≡ Err r) × (e ≡ answer_of r)

-- the refusal that is expected, or want of memory
abbrev pub MayRefuse : {A : Type 0} → Result A Refusal → ColumnarError → Type 0
MayRefuse expected e = (e ≡ answers.OutOfMemory) ⊎ Refuses expected e

-- Ok is the value that is expected. A refusal is the one that is expected, or want of memory, and
-- changes nothing.
pub record RecordsOrRefuses {A : Type 0} (old new : A) (result : Result (Unit {0}) ColumnarError)
    (expected : Result A Refusal) : Type 0 where
  pub ok : OnOk result (expected ≡ Ok new)
  pub refused : IfErr result (MayRefuse expected)
  pub kept : OnErr result (new ≡ old)

-- Ok is the value that is expected. A refusal is the one that is expected, and changes nothing; no
-- memory is wanted.
pub record RecordsExactly {A : Type 0} (old new : A) (result : Result (Unit {0}) ColumnarError)
    (expected : Result A Refusal) : Type 0 where
  pub ok : OnOk result (expected ≡ Ok new)
  pub refused : IfErr result (Refuses expected)
  pub kept : OnErr result (new ≡ old)

-- Ok has the value that is expected, as `view` sees it. A refusal is the one that is expected, or
-- want of memory.
pub record Gives {A B : Type 0} (view : B → A) (result : Result B ColumnarError)
    (expected : Result A Refusal) : Type 0 where
  pub ok : IfOk result (λ found. expected ≡ Ok (view found))
  pub refused : IfErr result (MayRefuse expected)
