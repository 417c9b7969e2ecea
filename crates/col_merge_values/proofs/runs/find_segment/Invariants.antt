use Rattle.std.proofs.Common.{◌-◌, drop}
use Rattle.col_model.specs.Order.{stack}
use Rattle.col_model.specs.U64List.{joined_lists}
use Rattle.col_merge_values.proofs.RunLemmas.{IsBetweenRuns}
use Rattle.col_merge_values.specs.Merges.{merge_of, values_to_give}
use Rattle.col_merge_values.proofs.runs.find_segment.Given as goal

-- none of the segments that were passed has a value
abbrev pub invariant-loop-at : goal.invariant-loop-at
invariant-loop-at g l =
    let c = g.S.Segments.columns l.segments in
    IsBetweenRuns c l.at (joined_lists (drop l.at.place c.lists)) (values_to_give (merge_of c (stack l.order)) l.fn.at)

abbrev pub decreases-loop-at : goal.decreases-loop-at
decreases-loop-at g l = l.num_segments - l.at.place
