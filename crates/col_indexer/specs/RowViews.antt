-- Lists of rows, from anywhere.
use Rattle.std.specs.Prelude.{ℕ, ◌≤◌, List, drop, length}
use Rattle.col_common.specs.declared.iterable.Walk.{Walk}
use Rattle.col_model.specs.Positions.{rows_with_value}
use Rattle.col_index.specs.Walked.{IsWalkOfRows}
use Rattle.col_indexer.specs.Stacks.{stacked_counts, StandsAtRow, stacked_rows_to_give}
use Rattle.col_indexer.specs.Shuffles.{shuffled_counts, StandsAtPick, picks_to_give}
use Rattle.col_indexer.specs.declared.row_ids.RowIds.{RowIds}
use Rattle.col_indexer.specs.declared.row_ids.RowIds.TheVariants.{Slice, Index, Stacked, Shuffled}

-- the rows
abbrev pub rows_of : RowIds → List ℕ
rows_of (Slice s) = s.now
rows_of (Index i) = i.now.rows
rows_of (Stacked s) = rows_with_value (stacked_counts s)
rows_of (Shuffled p) = rows_with_value (shuffled_counts p)

-- a walk of them
abbrev pub RowsStand : RowIds → Walk → Type 0
RowsStand (Slice s) w = w.place ≤ length s.now
RowsStand (Index i) w = IsWalkOfRows i.now.rows w
RowsStand (Stacked s) w = StandsAtRow s w
RowsStand (Shuffled p) w = StandsAtPick p w

-- those that it has still to give
abbrev pub rows_to_give : RowIds → Walk → List ℕ
rows_to_give (Slice s) w = drop w.place s.now
rows_to_give (Index i) w = drop w.place i.now.rows
rows_to_give (Stacked s) w = stacked_rows_to_give s w
rows_to_give (Shuffled p) w = picks_to_give p w
