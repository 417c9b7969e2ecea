use Rattle.col_merge_plan.proofs.DistinctLemmas.{distinct_of_sorted}
use Rattle.col_merge_plan.proofs.slots.make_distinct.Goals as goal

pub returns : goal.returns
returns c = distinct_of_sorted _ _ _ c.sort_unstable.ensures.permutation c.sort_unstable.ensures.sorted c.dedup.ensures.filtered
