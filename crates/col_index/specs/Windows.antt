-- Windows of positions that follow one another.
use Rattle.std.specs.Prelude.{◌≡◌, ℕ, ◌+◌, ◌<◌, ◌≤◌, List, length, slice_index}
use Rattle.col_model.specs.Positions.{rank}
use Rattle.col_index.specs.declared.windows.Window.{Window}

-- a table says how many start offsets are at or before each of the positions
pub record IsWindow (starts : List ℕ) (w : Window) (table : List ℕ) : Type 0 where
  pub short : w.len ≤ length table
  pub counts : (i : ℕ) → i < w.len → slice_index table i ≡ rank starts (w.position + 1 + i)
