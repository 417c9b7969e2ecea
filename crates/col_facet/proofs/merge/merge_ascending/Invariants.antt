-- What came, and the totals of what is left, are the totals.
use Rattle.std.proofs.Common.{◌≡◌, ◌+◌, ◌-◌, ◌≤◌, true, ◌++◌, drop, length}
use Rattle.col_facet.specs.Facets.{totals_of, are_counted}
use Rattle.col_facet.proofs.merge.merge_ascending.Given as goal

abbrev pub invariant-loop-i : goal.invariant-loop-i
invariant-loop-i l = (l.i ≤ length l.left) × (l.j ≤ length l.right) × (are_counted l.sums.items ≡ true)
    × (l.sums.items ++ totals_of (drop l.i l.left ++ drop l.j l.right) ≡ totals_of (l.left ++ l.right))

abbrev pub decreases-loop-i : goal.decreases-loop-i
decreases-loop-i l = (length l.left - l.i) + (length l.right - l.j)
