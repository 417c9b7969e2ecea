use Rattle.std.proofs.Common.{◌≡◌, ◌++◌}
use Rattle.col_model.specs.Positions.{start_of, rows_with_value}
use Rattle.col_indexer.specs.Counted.{rows_behind}
use Rattle.col_indexer.specs.Stacks.{index_segments, stacked_counts, counts_from}
use Rattle.col_indexer.proofs.stacked_lists.collected_rows.Given as goal

-- what was collected and what is left are all rows
abbrev pub invariant-loop-segment : goal.invariant-loop-segment
invariant-loop-segment l =
    let s = index_segments l.column_indexes l.order in
    record {
      before : l.before ≡ start_of s.counts l.segment;
      whole : l.rows.items ++ rows_behind l.before (counts_from s l.segment) ≡ rows_with_value (stacked_counts s);
    }
