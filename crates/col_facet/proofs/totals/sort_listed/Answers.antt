use Rattle.col_facet.proofs.totals.sort_listed.Goals as goal
use Rattle.col_facet.proofs.ListedLemmas.{in_order-sorted}

pub returns-clause-sorted : goal.returns-clause-sorted
returns-clause-sorted c = in_order-sorted c.sort_unstable.new.self.items c.sort_unstable.ensures.sorted
