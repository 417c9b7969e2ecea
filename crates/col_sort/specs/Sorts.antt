-- What putting the rows of readers in order gives. States docs/RULES.md, Sorted merges.
use Rattle.std.specs.Prelude.{◌≡◌, Bool, List, Result, Ok, Err, IfSome}
use Rattle.col_common.specs.declared.error.ColumnarError.{ColumnarError}
use Rattle.col_common.specs.declared.error.ColumnarError.TheVariants.{OutOfMemory, ReadFault, InvalidData, TooLarge}
use Rattle.col_model.specs.Category.{Slot}
use Rattle.col_model.specs.File.{Part}
use Rattle.col_model.specs.Order.{Order, shuffle}
use Rattle.col_model.specs.Refusal.{Refusal}
use Rattle.col_model.specs.SortedOrder.{sorted_order}
use Rattle.col_order.specs.Orders.{Shuffle}
use Rattle.col_file.specs.Readers.{SeenReader}
use Rattle.col_merge_plan.specs.Slots.{counts_read}
use Rattle.col_merge.specs.Parts.{told_parts}
use Rattle.col_merge.specs.Readings.{SomeReaderRose}
use Rattle.col_merge.specs.Turns.{RefusesParts}

-- a shuffle by its definition
abbrev pub named_by : Shuffle → Order
named_by s = shuffle s.counts s.addresses

-- An order of the readers' row counts: the sorted one, where the readers tell their parts.
pub record IsSortedOrder (rs : List SeenReader) (slot : Slot) (reversed : Bool) (order : Shuffle)
    : Type 0 where
  pub counts : order.counts ≡ counts_read rs
  pub told : IfSome (told_parts rs)
      (λ parts. sorted_order parts slot reversed ≡ Ok (named_by order))

-- Why rows aren't put in order: want of memory, a reader whose count of faults rose, or the
-- refusal that is expected of the parts; too many rows are refused before anything is read.
abbrev pub RefusesOrder : List SeenReader → List SeenReader → ColumnarError
    → (List Part → Result Order Refusal) → Type 0
RefusesOrder olds news OutOfMemory expected = Unit {0}
RefusesOrder olds news ReadFault expected = SomeReaderRose olds news
RefusesOrder olds news InvalidData expected = RefusesParts olds InvalidData expected
RefusesOrder olds news TooLarge expected =
    (news ≡ olds) × RefusesParts olds TooLarge expected
RefusesOrder olds news _ expected = ⊥

-- The readers' rows were put in order by a slot, or the refusal has its cause.
abbrev pub SortsRows : List SeenReader → List SeenReader → Result Shuffle ColumnarError → Slot
    → Bool → Type 0
SortsRows olds news (Ok order) slot reversed = IsSortedOrder olds slot reversed order
SortsRows olds news (Err e) slot reversed =
    RefusesOrder olds news e (λ parts. sorted_order parts slot reversed)
