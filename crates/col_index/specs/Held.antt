-- Rows with a value, as an index has them.
use Rattle.col_model.specs.Index.{RowSet}
use Rattle.col_index.specs.declared.held_rows.HeldRows.{HeldRows}
use Rattle.col_index.specs.declared.held_rows.HeldRows.TheVariants.{Listed, InRuns}

-- how many rows there are, and those that have a value
abbrev pub set_held : HeldRows → RowSet
set_held (Listed rows) = rows
set_held (InRuns runs) = runs
