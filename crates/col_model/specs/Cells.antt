-- The cells that values of a type stand for.
use Rattle.std.specs.Prelude.{◌≡◌, ℕ, pos, Bool, Option}
use Rattle.std.specs.Ordering.{partial_le}
use Rattle.std.specs.declared.cmp.Ordering.{Ordering}
use Rattle.col_model.specs.Table.{Cell, number}
use Rattle.col_model.specs.Lookup.{is_at_most}
use Rattle.col_model.specs.Codes.{bool_code}

-- Cells compare as the values that they stand for.
pub record AreCells {T : Type 0} (partial_cmp : T → T → Option Ordering) (cell : T → Cell) :
    Type 0 where
  pub at_most : (a b : T) → is_at_most (cell a) (cell b) ≡ partial_le partial_cmp a b

-- the cell of an unsigned number, or of an address by its number
abbrev pub unsigned_cell : ℕ → Cell
unsigned_cell n = number (pos n)

-- 1 for true, 0 for false
abbrev pub bool_cell : Bool → Cell
bool_cell b = number (pos (bool_code b))
