use Rattle.std.proofs.Common.{◌≡◌, ◌<◌, ◌-◌}
use Rattle.col_indexer.specs.Stacks.{index_segments, StandsAtOffset, stacked_offsets_to_give}
use Rattle.col_indexer.proofs.stacked.next_start.Given as goal

abbrev pub invariant-loop-at : goal.invariant-loop-at
invariant-loop-at l = record {
  begun : 0 < l.at.place;
  stands : StandsAtOffset (index_segments l.column_indexes l.order) l.at;
  left : stacked_offsets_to_give (index_segments l.column_indexes l.order) l.at
      ≡ stacked_offsets_to_give (index_segments l.column_indexes l.order) l.fn.at;
}

abbrev pub decreases-loop-at : goal.decreases-loop-at
decreases-loop-at l = l.num_segments - l.at.segment
