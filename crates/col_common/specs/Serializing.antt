-- What a call that serializes into a sink leaves there.
use Rattle.std.specs.Prelude.{◌≡◌, ◌≤◌, ◌⊎◌, ℕ, List, Result, Ok, Err, OnOk, IfErr}
use Rattle.col_common.specs.Outside.{SeenSink, Appends, Faulted, Grows}
use Rattle.col_common.specs.declared.error.ColumnarError.{ColumnarError}
use Rattle.col_common.specs.declared.error.ColumnarError.TheVariants.{OutOfMemory, WriteFault}

-- Ok added just these bytes. A refusal is want of memory, or WriteFault where the sink's count of
-- faults rose; what the sink held stays in front.
pub record Serializes (old new : SeenSink) (result : Result (Unit {0}) ColumnarError)
    (bytes : List ℕ) : Type 0 where
  pub ok : OnOk result (Appends old new bytes)
  pub grown : Grows old new
  pub later : old.faults ≤ new.faults
  pub write_fault : result ≡ Err WriteFault → Faulted old new
  pub causes : IfErr result (λ e. (e ≡ OutOfMemory) ⊎ (e ≡ WriteFault))

-- a result without its value
abbrev pub done : {T : Type 0} → Result T ColumnarError → Result (Unit {0}) ColumnarError
done (Ok value) = Ok tt
done (Err e) = Err e

-- A call was stopped before the first byte: the sink is as it was, and the answer is this refusal,
-- or want of memory.
pub record Stopped {S : Type 0} (old new : S) (result : Result (Unit {0}) ColumnarError)
    (refusal : ColumnarError) : Type 0 where
  pub same : new ≡ old
  pub refused : (result ≡ Err refusal) ⊎ (result ≡ Err OutOfMemory)
