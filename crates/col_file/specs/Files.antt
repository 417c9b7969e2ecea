-- What calls that read a file answer, and what they leave of it.
use Rattle.std.specs.Prelude.{◌≡◌, ◌≤◌, ◌+◌, ℕ, List, Option, Some, None, Result, Ok, Err, IfSome}
use Rattle.col_common.specs.Causes.{Rose}
use Rattle.col_common.specs.Outside.{SeenFile}
use Rattle.col_common.specs.declared.error.ColumnarError.{ColumnarError}
use Rattle.col_common.specs.declared.error.ColumnarError.TheVariants.{OutOfMemory, ReadFault, InvalidData}

-- A file was read at most so often, and stays as it was but for its counts.
pub record ReadsFile (times : ℕ) (old new : SeenFile) : Type 0 where
  pub told : new.told ≡ old.told
  pub size : new.size ≡ old.size
  pub later : old.faults ≤ new.faults
  pub reads : new.reads ≤ old.reads + times
  pub mark : new.mark ≡ old.mark

-- what was made is of the value that is expected
abbrev pub IsExpected : {T V : Type 0} → (V → T → Type 0) → T → Option V → Type 0
IsExpected IsOf made (Some value) = IsOf value made
IsExpected IsOf made None = ⊥

-- InvalidData says that the file's bytes give no value, ReadFault that the count of faults rose,
-- and want of memory nothing; no other refusal comes.
abbrev pub RefusesFile : {V : Type 0} → SeenFile → SeenFile → ColumnarError →
    (List ℕ → Option V) → Type 0
RefusesFile old new OutOfMemory expected = Unit {0}
RefusesFile old new InvalidData expected = IfSome old.told (λ bytes. expected bytes ≡ None)
RefusesFile old new ReadFault expected = Rose old.faults new.faults
RefusesFile old new _ expected = ⊥

-- What a call made of a file is of the value that its bytes give, where it tells them; or the call
-- refuses.
abbrev pub AnswersForHandle : {T V : Type 0} → (V → T → Type 0) → SeenFile → SeenFile →
    Result T ColumnarError → (List ℕ → Option V) → Type 0
AnswersForHandle IsOf old new (Ok made) expected =
    IfSome old.told (λ bytes. IsExpected IsOf made (expected bytes))
AnswersForHandle IsOf old new (Err e) expected = RefusesFile old new e expected
