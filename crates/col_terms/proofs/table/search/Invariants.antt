use Rattle.std.proofs.Common.{◌-◌}
use Rattle.col_terms.specs.TermTable.{terms_of}
use Rattle.col_terms.proofs.SearchLemmas.{IsNarrowed}
use Rattle.col_terms.proofs.table.search.Given as goal

abbrev pub invariant-loop-low : goal.invariant-loop-low
invariant-loop-low l = IsNarrowed (terms_of l.bytes) l.key l.low l.high

abbrev pub decreases-loop-low : goal.decreases-loop-low
decreases-loop-low l = l.high - l.low
