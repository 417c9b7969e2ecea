-- What files without a column do to a stack. States docs/RULES.md, Merged tables.
use Rattle.std.specs.Prelude.{◌≡◌, List, [], ◌∷◌, ◌++◌, None, Result, Option, sum}
use Rattle.std.specs.List.{AllByRecursion}
use Rattle.col_model.specs.Category.{Slot}
use Rattle.col_model.specs.File.{Part}
use Rattle.col_model.specs.Merge.{Required, column_in, joined_column, row_counts}
use Rattle.col_model.specs.Order.{stack, all_rows}
use Rattle.col_model.specs.Refusal.{Refusal}
use Rattle.col_model.specs.Table.{Column}

-- the column that a stack of these files has under a slot
abbrev pub column_of_stack : List Part → List Required → Slot → Result (Option Column) Refusal
column_of_stack parts required slot =
    joined_column (stack (row_counts parts)) (all_rows (row_counts parts)) parts required slot

-- Neighbours that lack a column may be one file without columns, of as many rows: the stack's
-- column is the same, and so is its refusal.
abbrev pub NeighboursWithoutTheColumnAreOne : Type 0
NeighboursWithoutTheColumnAreOne = (slot : Slot) (before gap behind : List Part)
    (required : List Required) → AllByRecursion (λ p. column_in slot p ≡ None) gap
    → column_of_stack (before ++ (gap ++ behind)) required slot
    ≡ column_of_stack
    (before ++ (record { row_count = sum (row_counts gap); columns = [] }) ∷ behind) required slot
