-- Values that are read, and reasons why one isn't.
use Rattle.std.specs.Prelude.{◌≡◌, Result, Ok, Err}
use Rattle.col_model.specs.ColumnType.{ColumnType}
use Rattle.col_model.specs.Table.{Cell}
use Rattle.col_documents.specs.declared.refusal.Reason.{Reason}
use Rattle.col_documents.specs.declared.refusal.ValueError.{ValueError}
use Rattle.col_documents.specs.declared.refusal.ValueError.TheVariants.{OutOfMemory, Refused}

-- a value with its type, or why it isn't taken
abbrev pub Taken : Type 0
Taken = Result (ColumnType × Cell) Reason

-- Ok is what is expected, as `view` sees it, and a reason is the one that is expected; or memory
-- was wanting.
abbrev pub GivesValue : {A B : Type 0} → (A → B) → Result A ValueError → Result B Reason → Type 0
GivesValue view (Ok found) expected = expected ≡ Ok (view found)
GivesValue view (Err OutOfMemory) expected = Unit {0}
GivesValue view (Err (Refused reason)) expected = expected ≡ Err reason

-- Ok is what is expected, as `view` sees it, and a reason is the one that is expected.
abbrev pub GivesReason : {A B : Type 0} → (A → B) → Result A Reason → Result B Reason → Type 0
GivesReason view (Ok found) expected = expected ≡ Ok (view found)
GivesReason view (Err reason) expected = expected ≡ Err reason
