-- What merging one slot, and slot after slot, leaves.
use Rattle.std.specs.Prelude.{◌≡◌, ◌≤◌, ℕ, List, map, filter_map, Option, Some, None, Result, Ok, Err, IfSome}
use Rattle.col_common.specs.Outside.{SeenSink, Grows, Faulted}
use Rattle.col_common.specs.declared.error.ColumnarError.{ColumnarError}
use Rattle.col_common.specs.declared.error.ColumnarError.TheVariants.{OutOfMemory, ReadFault, WriteFault, InvalidData, BadOrder, BadName, RequiredConflict, CannotCoerce, NumericalConflict, TooLarge}
use Rattle.col_model.specs.Category.{Slot}
use Rattle.col_model.specs.File.{Part, part_of_column}
use Rattle.col_model.specs.Keys.{Key}
use Rattle.col_model.specs.Refusal.{Refusal, each_ok, invalid_data, bad_order, bad_name, required_conflict, cannot_coerce, numerical_conflict, too_large}
use Rattle.col_model.specs.Table.{Column}
use Rattle.col_keys.specs.Put.{PutColumns, Puts, HavePut, part_put}
use Rattle.col_file.specs.Readers.{SeenReader}
use Rattle.col_merge.specs.Parts.{told_parts}
use Rattle.col_merge.specs.Readings.{SomeReaderRose}

-- the refusal that the definitions have for an answer
abbrev pub refusal_of : ColumnarError → Option Refusal
refusal_of InvalidData = Some invalid_data
refusal_of BadOrder = Some bad_order
refusal_of BadName = Some bad_name
refusal_of RequiredConflict = Some required_conflict
refusal_of CannotCoerce = Some cannot_coerce
refusal_of NumericalConflict = Some numerical_conflict
refusal_of TooLarge = Some too_large
refusal_of _ = None

-- the answer stands for the refusal that is expected of the parts, where the readers tell these
pub record RefusesParts {A : Type 0} (rs : List SeenReader) (e : ColumnarError)
    (expected : List Part → Result A Refusal) : Type 0 where
  pub refusal : Refusal
  pub is : refusal_of e ≡ Some refusal
  pub told : IfSome (told_parts rs) (λ parts. expected parts ≡ Err refusal)

-- Why a merge refuses: want of memory, a reader whose count of faults rose, the sink's count, or
-- the refusal that is expected of the parts.
abbrev pub RefusesMerge : {A : Type 0} → List SeenReader → List SeenReader → SeenSink → SeenSink →
    ColumnarError → (List Part → Result A Refusal) → Type 0
RefusesMerge olds news a b OutOfMemory expected = Unit {0}
RefusesMerge olds news a b ReadFault expected = SomeReaderRose olds news
RefusesMerge olds news a b WriteFault expected = Faulted a b
RefusesMerge olds news a b e expected = RefusesParts olds e expected

-- what a sink held stays in front, and its count of faults never falls
pub record IsLaterSink (a b : SeenSink) : Type 0 where
  pub grown : Grows a b
  pub later : a.faults ≤ b.faults

-- one column was put, or none
abbrev pub PutsOne : PutColumns → PutColumns → SeenSink → SeenSink → Option (Key × List ℕ) → Type 0
PutsOne old new a b None = (new ≡ old) × (b ≡ a)
PutsOne old new a b (Some p) = Puts old new a b (Ok tt) p.0 p.1

-- what was put is the column that is expected
abbrev pub IsPutAs : ℕ → Option (Key × List ℕ) → Result (Option Column) Refusal → Type 0
IsPutAs n None expected = expected ≡ Ok None
IsPutAs n (Some p) expected =
    (c : Column) × (expected ≡ Ok (Some c)) × (part_put n p ≡ part_of_column c)

-- one slot was merged
pub record MergedOne (rs : List SeenReader) (old new : PutColumns) (a b : SeenSink) (n : ℕ)
    (expected : List Part → Result (Option Column) Refusal) : Type 0 where
  pub one : Option (Key × List ℕ)
  pub put : PutsOne old new a b one
  pub told : IfSome (told_parts rs) (λ parts. IsPutAs n one (expected parts))

-- one slot was merged, or refused
abbrev pub MergesOne : List SeenReader → List SeenReader → PutColumns → PutColumns → SeenSink →
    SeenSink → Result (Unit {0}) ColumnarError → ℕ →
    (List Part → Result (Option Column) Refusal) → Type 0
MergesOne olds news old new a b (Ok done) n expected = MergedOne olds old new a b n expected
MergesOne olds news old new a b (Err e) n expected = RefusesMerge olds news a b e expected

-- columns that were put are those that are expected
abbrev pub ArePutAs : ℕ → List (Key × List ℕ) → Result (List (Option Column)) Refusal → Type 0
ArePutAs n ps (Ok cs) = map (part_put n) ps ≡ map part_of_column (filter_map (λ c. c) cs)
ArePutAs n ps (Err refusal) = ⊥

-- These slots were merged since the start.
pub record MergedSoFar (rs : List SeenReader) (start now : SeenSink) (columns : PutColumns) (n : ℕ)
    (expected : List Part → Slot → Result (Option Column) Refusal) (slots : List Slot)
    : Type 0 where
  pub ps : List (Key × List ℕ)
  pub put : HavePut start now columns ps
  pub told : IfSome (told_parts rs) (λ parts. ArePutAs n ps (each_ok (expected parts) slots))

-- slots were merged, or the first one that wasn't says why
abbrev pub MergesSlots : List SeenReader → List SeenReader → PutColumns → SeenSink → SeenSink →
    Result (Unit {0}) ColumnarError → ℕ →
    (List Part → Slot → Result (Option Column) Refusal) → List Slot → Type 0
MergesSlots olds news columns a b (Ok done) n expected slots =
    MergedSoFar olds a b columns n expected slots
MergesSlots olds news columns a b (Err e) n expected slots =
    RefusesMerge olds news a b e (λ parts. each_ok (expected parts) slots)
