use Rattle.std.proofs.Common.{◌-◌}
use Rattle.col_terms.specs.TermTable.{terms_of}
use Rattle.col_terms.proofs.PrefixLemmas.{IsEnding}
use Rattle.col_terms.proofs.table.prefix_end.Given as goal

abbrev pub invariant-loop-low : goal.invariant-loop-low
invariant-loop-low l = IsEnding (terms_of l.bytes) l.prefix l.start l.low l.high

abbrev pub decreases-loop-low : goal.decreases-loop-low
decreases-loop-low l = l.high - l.low
