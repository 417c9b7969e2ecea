-- What is kept is the first so many of the facets that were walked.
use Rattle.std.proofs.Common.{◌≡◌, ◌≤◌, take, drop, length}
use Rattle.col_model.specs.Sorted.{sorted_items}
use Rattle.col_facet.specs.Ranked.{ranked_counts, in_rank}
use Rattle.col_facet.proofs.top.best_ranked.Given as goal

abbrev pub invariant-loop-at : goal.invariant-loop-at
invariant-loop-at l =
    (l.at ≤ length l.facets) × (ranked_counts l.best.items ≡ take l.k (sorted_items in_rank (drop l.at l.facets)))

abbrev pub decreases-loop-at : goal.decreases-loop-at
decreases-loop-at l = l.at
