-- What is left ascends where all do.
use Rattle.std.proofs.Common.{length, ◌-◌, ◌≡◌, ◌≤◌, drop}
use Rattle.col_facet.specs.Facets.{are_ascending}
use Rattle.col_facet.proofs.totals.is_ascending.Given as goal

abbrev pub invariant-loop-i : goal.invariant-loop-i
invariant-loop-i l = (l.i ≤ length l.facets) × (are_ascending (drop l.i l.facets) ≡ are_ascending l.facets)

abbrev pub decreases-loop-i : goal.decreases-loop-i
decreases-loop-i l = length l.facets - l.i
