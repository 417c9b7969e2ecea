use Rattle.col_laws.proofs.SortLemmas.{sorted-merges-are-in-order}
use Rattle.col_laws.proofs.laws.sorted_merges_are_in_order.Goals as goal

pub returns : goal.returns
returns c = sorted-merges-are-in-order
