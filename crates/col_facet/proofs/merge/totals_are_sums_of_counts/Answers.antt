use Rattle.col_facet.proofs.KindLemmas.{totals-of-two, totals-of-all}
use Rattle.col_facet.proofs.merge.totals_are_sums_of_counts.Goals as goal

pub returns-clause-two : goal.returns-clause-two
returns-clause-two c = totals-of-two

pub returns-clause-any : goal.returns-clause-any
returns-clause-any c = totals-of-all
