-- What a call leaves of a list that it replaces.
use Rattle.std.specs.Prelude.{◌≡◌, List, [], Result, Ok, Err}
use Rattle.col_common.specs.declared.error.ColumnarError.{ColumnarError}
use Rattle.col_common.specs.declared.error.ColumnarError.TheVariants.{OutOfMemory}

-- Ok put just these items there. Want of memory is the one refusal, and leaves none.
abbrev pub Replaces : {A : Type 0} → Result (Unit {0}) ColumnarError → List A → List A → Type 0
Replaces (Ok done) new expected = new ≡ expected
Replaces (Err e) new expected = (e ≡ OutOfMemory) × (new ≡ [])
