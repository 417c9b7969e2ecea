-- What joining the columns of a slot gives. States docs/RULES.md, Merged tables.
use Rattle.std.specs.Prelude.{◌≡◌, ◌⊎◌, ℕ, List, IfErr, IfSome, Option, Some, None, Result, Ok, Err}
use Rattle.col_common.specs.Outside.{SeenSink}
use Rattle.col_common.specs.declared.error.ColumnarError.{ColumnarError}
use Rattle.col_common.specs.declared.error.ColumnarError.TheVariants.{OutOfMemory}
use Rattle.col_model.specs.Category.{Slot}
use Rattle.col_model.specs.File.{Part}
use Rattle.col_model.specs.Merge.{Required, joined_column}
use Rattle.col_model.specs.Order.{Order}
use Rattle.col_model.specs.Refusal.{Refusal}
use Rattle.col_model.specs.Table.{Column}
use Rattle.col_types.specs.Kinds.{kind_of}
use Rattle.col_types.specs.declared.column_type.ColumnType.{ColumnType}
use Rattle.col_order.specs.Orders.{picks_of}
use Rattle.col_file.specs.Readers.{SeenReader}
use Rattle.col_merge_slot.specs.JoinedSlots.{IsJoined}
use Rattle.col_merge.specs.Parts.{told_parts}
use Rattle.col_merge.specs.Turns.{refusal_of, RefusesMerge}

-- the column that an order joins of a slot
abbrev pub joined_by : Order → List Required → List Part → Slot → Result (Option Column) Refusal
joined_by order required parts slot = joined_column order (picks_of order) parts required slot

-- the answer stands for this refusal
abbrev pub StandsAs : ColumnarError → Refusal → Type 0
StandsAs e refusal = refusal_of e ≡ Some refusal

-- an answer is want of memory, or stands for some refusal
abbrev pub HasJoinCause : {A : Type 0} → Result A ColumnarError → Type 0
HasJoinCause result =
    IfErr result (λ e. (e ≡ OutOfMemory) ⊎ ((refusal : Refusal) × StandsAs e refusal))

-- the type and the bytes of the column that is expected, or its refusal
abbrev pub JoinsBytes : Result (Option (ColumnType × List ℕ)) ColumnarError → List ℕ → ℕ
    → Result (Option Column) Refusal → Type 0
JoinsBytes (Ok None) name n expected = expected ≡ Ok None
JoinsBytes (Ok (Some p)) name n expected = IsJoined name n (kind_of p.0) p.1 expected
JoinsBytes (Err e) name n expected = (e ≡ OutOfMemory)
    ⊎ ((refusal : Refusal) × StandsAs e refusal × (expected ≡ Err refusal))

-- the same, where readers' columns are opened first
abbrev pub JoinsColumns : List SeenReader → List SeenReader
    → Result (Option (ColumnType × List ℕ)) ColumnarError → List ℕ → ℕ
    → (List Part → Result (Option Column) Refusal) → Type 0
JoinsColumns olds news (Ok None) name n expected =
    IfSome (told_parts olds) (λ parts. expected parts ≡ Ok None)
JoinsColumns olds news (Ok (Some p)) name n expected =
    IfSome (told_parts olds) (λ parts. IsJoined name n (kind_of p.0) p.1 (expected parts))
JoinsColumns olds news (Err e) name n expected =
    (a b : SeenSink) → RefusesMerge olds news a b e expected
