-- Rows that are ranked one behind another.
use Rattle.std.specs.Prelude.{ℕ, List}
use Rattle.col_index.specs.declared.rows_near.RowsNear.{RowsNear}
use Rattle.col_index.specs.declared.rows_near.RowsNear.TheVariants.{Walked, Ranked, InRuns}

-- these rows
abbrev pub rows_near : RowsNear → List ℕ
rows_near (Walked rows) = rows.now.rows
rows_near (Ranked index) = index.now.rows
rows_near (InRuns runs) = runs.now.rows
