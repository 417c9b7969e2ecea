use Rattle.std.proofs.Common.{◌≡◌}
use Rattle.col_model.specs.Positions.{start_of}
use Rattle.col_indexer.specs.Stacks.{index_segments}
use Rattle.col_indexer.proofs.RunStackLemmas.{Become}
use Rattle.col_indexer.proofs.stacked_runs.collected_runs.Given as goal

-- the runs so far become those of all rows with what is left
abbrev pub invariant-loop-segment : goal.invariant-loop-segment
invariant-loop-segment l =
    let s = index_segments l.column_indexes l.order in
    record {
      before : l.before ≡ start_of s.counts l.segment;
      become : Become s l.segment l.before l.runs;
    }
