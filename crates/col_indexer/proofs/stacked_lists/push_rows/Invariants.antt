use Rattle.std.proofs.Common.{◌≡◌, ◌-◌, ◌++◌, length, drop}
use Rattle.col_model.specs.Positions.{rank, rows_with_value}
use Rattle.col_index.specs.Indexes.{shape_of}
use Rattle.col_indexer.specs.Counted.{counts_in, rows_behind}
use Rattle.col_indexer.proofs.stacked_lists.push_rows.Given as goal

-- what was appended and what is left are the segment's rows
abbrev pub invariant-loop-row : goal.invariant-loop-row
invariant-loop-row l =
    let counts = counts_in l.num_rows (shape_of l.column_index) in
    record {
      ranked : rank (rows_with_value counts) l.from ≡ l.place;
      whole : l.rows.items ++ drop l.place (rows_behind l.before counts) ≡ l.initial.rows.items ++ rows_behind l.before counts;
    }

abbrev pub decreases-loop-row : goal.decreases-loop-row
decreases-loop-row l = length (rows_with_value (counts_in l.num_rows (shape_of l.column_index))) - l.place
