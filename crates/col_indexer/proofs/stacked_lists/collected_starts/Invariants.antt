use Rattle.std.proofs.Common.{◌≡◌, ◌++◌}
use Rattle.col_model.specs.Positions.{starts_of}
use Rattle.col_indexer.specs.Counted.{ends_behind}
use Rattle.col_indexer.specs.Stacks.{index_segments, stacked_counts, counts_from, values_before}
use Rattle.col_indexer.proofs.stacked_lists.collected_starts.Given as goal

-- what was collected and what is left are all offsets
abbrev pub invariant-loop-segment : goal.invariant-loop-segment
invariant-loop-segment l =
    let s = index_segments l.column_indexes l.order in
    record {
      before : l.before ≡ values_before s l.segment;
      whole : l.starts.items ++ ends_behind l.before (counts_from s l.segment) ≡ starts_of (stacked_counts s);
    }
