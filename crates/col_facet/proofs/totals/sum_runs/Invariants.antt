use Rattle.std.proofs.Common.{length, ◌-◌}
use Rattle.col_facet.proofs.RunSumLemmas.{AreSums}
use Rattle.col_facet.proofs.totals.sum_runs.Given as goal

abbrev pub invariant-loop-i : goal.invariant-loop-i
invariant-loop-i l = AreSums l.listed l.sums.items l.so_far l.i

abbrev pub decreases-loop-i : goal.decreases-loop-i
decreases-loop-i l = length l.listed - l.i
